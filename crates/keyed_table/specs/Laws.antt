-- How the words for rows by number belong together. It assumes nothing.
use Rattle.std.specs.Prelude.{◌≡◌, ℕ, ◌+◌, ◌≢◌, List, length, Some, None, slice_index_or}
use Rattle.keyed_table.specs.Rows.{StrictlyRising, NumberAt, NoRowHas, lookup, added, without, replaced}

-- a look-up finds the row that has the number, and nothing exactly where no row has it; what it finds tells all the rows
pub record Finding {X : Type 0} (key : X → ℕ) : Type 0 where
  pub row_found : (n i : ℕ) (d : X) (xs : List X) → StrictlyRising key xs → NumberAt key n xs i → lookup key n xs ≡ Some (slice_index_or xs i d)
  pub found_stands : (n : ℕ) (x : X) (xs : List X) → lookup key n xs ≡ Some x → (i : ℕ) × NumberAt key n xs i × (slice_index_or xs i x ≡ x)
  pub lacking_none : (n : ℕ) (xs : List X) → NoRowHas key n xs → lookup key n xs ≡ None
  pub none_lacking : (n : ℕ) (xs : List X) → lookup key n xs ≡ None → NoRowHas key n xs
  pub same_rows : (xs ys : List X) → StrictlyRising key xs → StrictlyRising key ys → ((n : ℕ) → lookup key n xs ≡ lookup key n ys) → xs ≡ ys

-- x is added: its number finds it, and every other finds what it did
pub record Adding {X : Type 0} (key : X → ℕ) (x : X) (xs : List X) : Type 0 where
  pub found : lookup key (key x) (added key x xs) ≡ Some x
  pub others : (n : ℕ) → n ≢ key x → lookup key n (added key x xs) ≡ lookup key n xs
  pub order : NoRowHas key (key x) xs → StrictlyRising key xs → StrictlyRising key (added key x xs)
  pub count : length (added key x xs) ≡ length xs + 1

-- the row with the number k is taken out: k finds nothing, and every other number finds what it did
pub record Removing {X : Type 0} (key : X → ℕ) (k : ℕ) (xs : List X) : Type 0 where
  pub gone : lookup key k (without key k xs) ≡ None
  pub others : (n : ℕ) → n ≢ k → lookup key n (without key k xs) ≡ lookup key n xs
  pub order : StrictlyRising key xs → StrictlyRising key (without key k xs)
  pub count : (y : X) → StrictlyRising key xs → lookup key k xs ≡ Some y → length (without key k xs) + 1 ≡ length xs

-- x stands for the row of its number: that number finds x, and every other finds what it did
pub record Replacing {X : Type 0} (key : X → ℕ) (x : X) (xs : List X) : Type 0 where
  pub found : (y : X) → lookup key (key x) xs ≡ Some y → lookup key (key x) (replaced key x xs) ≡ Some x
  pub others : (n : ℕ) → n ≢ key x → lookup key n (replaced key x xs) ≡ lookup key n xs
  pub order : StrictlyRising key xs → StrictlyRising key (replaced key x xs)
  pub count : length (replaced key x xs) ≡ length xs
