-- What a look-up finds, and what it finds after a change. It assumes nothing.
use Rattle.std.proofs.Common.{◌≡◌, ℕ, zero, suc, ◌+◌, ◌<◌, Bool, true, false, cond, eqb, ◌≢◌, List, [], ◌∷◌, length, get_or, Some, None, refl, ap, ⊎_elim, arith}
use Rattle.std.proofs.lemmas.List.Edits.{length-remove}
use Rattle.std.proofs.lemmas.List.{length-map}
use Rattle.std.proofs.lemmas.Bool.{cases_Bool, eqb-true}
use Rattle.std.proofs.lemmas.Grind.{common_steps}
use Rattle.keyed_table.specs.Rows.{StrictlyRising, NumberAt, NoRowHas, lookup, added, without, replaced}
use Rattle.keyed_table.specs.Laws.{Finding, Adding, Removing, Replacing}
use Rattle.keyed_table.proofs.Orders.{From, from, from_lacks, rising_added, rising_without, rising_replaced}
use Rattle.keyed_table.proofs.ByNumber.{lookup_at, lookup_lacks, without_at}

pub by_test : {P : Type 0} (b : Bool) → (b ≡ true → P) → (b ≡ false → P) → P
by_test b p q = ⊎_elim p q (cases_Bool b)

module _ {X : Type 0} (key : X → ℕ) where
  -- what is found stands there
  pub lookup_stands : (n : ℕ) (x : X) (xs : List X) → lookup key n xs ≡ Some x → (i : ℕ) × NumberAt key n xs i × (get_or xs i x ≡ x)
  lookup_stands n x [] e = absurd (grind arith)
  lookup_stands n x (y ∷ ys) e =
      by_test (eqb (key y) n)
      (λ t. (0, (omega arith, λ d. eqb-true (key y) n t), grind (arith, common_steps)))
      (λ t. let p = lookup_stands n x ys (grind (arith, common_steps)) in (suc p.0, (omega (arith, p.1.0), λ d. p.1.1 d), p.2))

  pub none_lacks : (n : ℕ) (xs : List X) → lookup key n xs ≡ None → NoRowHas key n xs
  none_lacks n [] e i d h q = omega arith
  none_lacks n (x ∷ xs) e zero d h q = grind (arith, common_steps)
  none_lacks n (x ∷ xs) e (suc i) d h q = let rest = λ (u : lookup key n xs ≡ None). none_lacks n xs u i d in grind (arith, common_steps)

  -- rows that rise are told by what is found
  absent : (m n : ℕ) (x : X) (xs : List X) → From key m (x ∷ xs) → n < key x → lookup key n (x ∷ xs) ≡ None
  absent m n x xs f h = lookup_lacks key n (x ∷ xs) (from_lacks key (key x) n (x ∷ xs) h (omega arith, f.1))

  once : (x : X) (xs : List X) → From key (suc (key x)) xs → lookup key (key x) xs ≡ None
  once x xs f = lookup_lacks key (key x) xs (from_lacks key (suc (key x)) (key x) xs (omega arith) f)

  same_from : (m k : ℕ) (xs ys : List X) → From key m xs → From key k ys → ((n : ℕ) → lookup key n xs ≡ lookup key n ys) → xs ≡ ys
  same_from m k [] [] f g e = refl
  same_from m k [] (y ∷ ys) f g e = let here = e (key y) in absurd (grind (arith, common_steps))
  same_from m k (x ∷ xs) [] f g e = let here = e (key x) in absurd (grind (arith, common_steps))
  same_from m k (x ∷ xs) (y ∷ ys) f g e =
      let here = e (key x) in
      let there = e (key y) in
      let left = absent k (key x) y ys g in
      let right = absent m (key y) x xs f in
      let first : x ≡ y = grind (arith, common_steps) in
      let one = once x xs f.1 in
      let other = once y ys g.1 in
      let rest = same_from (suc (key x)) (suc (key y)) xs ys f.1 g.1 (λ n. let at = e n in grind (arith, common_steps)) in
      grind (arith, common_steps)

  pub finding : Finding key
  finding = record {
    row_found = λ n i d xs r a. lookup_at key n xs i d r a;
    found_stands = lookup_stands;
    lacking_none = lookup_lacks key;
    none_lacking = none_lacks;
    same_rows = λ xs ys r s e. same_from 0 0 xs ys (from key xs r) (from key ys s) e;
  }

  -- after a row is added
  added_found : (x : X) (xs : List X) → lookup key (key x) (added key x xs) ≡ Some x
  added_found x [] = grind (arith, common_steps)
  added_found x (y ∷ ys) = let rest = added_found x ys in grind (arith, common_steps)

  added_others : (x : X) (xs : List X) (n : ℕ) → n ≢ key x → lookup key n (added key x xs) ≡ lookup key n xs
  added_others x [] n h = grind (arith, common_steps)
  added_others x (y ∷ ys) n h = let rest = added_others x ys n h in grind (arith, common_steps)

  added_count : (x : X) (xs : List X) → length (added key x xs) ≡ length xs + 1
  added_count x [] = refl
  added_count x (y ∷ ys) = let rest = added_count x ys in grind (arith, common_steps)

  pub adding : (x : X) (xs : List X) → Adding key x xs
  adding x xs = record { found = added_found x xs; others = added_others x xs; order = rising_added key x xs; count = added_count x xs }

  -- after one is taken out
  without_gone : (k : ℕ) (xs : List X) → lookup key k (without key k xs) ≡ None
  without_gone k [] = refl
  without_gone k (x ∷ xs) = let rest = without_gone k xs in grind (arith, common_steps)

  without_others : (k : ℕ) (xs : List X) (n : ℕ) → n ≢ k → lookup key n (without key k xs) ≡ lookup key n xs
  without_others k [] n h = refl
  without_others k (x ∷ xs) n h = let rest = without_others k xs n h in grind (arith, common_steps)

  without_count : (k : ℕ) (xs : List X) (y : X) → StrictlyRising key xs → lookup key k xs ≡ Some y → length (without key k xs) + 1 ≡ length xs
  without_count k xs y r e =
      let p = lookup_stands k y xs e in
      omega (arith, ap length (without_at key k xs p.0 y r p.1), length-remove xs p.0 p.1.0)

  pub removing : (k : ℕ) (xs : List X) → Removing key k xs
  removing k xs = record { gone = without_gone k xs; others = without_others k xs; order = rising_without key k xs; count = without_count k xs }

  -- after one is replaced
  replaced_found : (x : X) (xs : List X) (y : X) → lookup key (key x) xs ≡ Some y → lookup key (key x) (replaced key x xs) ≡ Some x
  replaced_found x [] y e = absurd (grind arith)
  replaced_found x (z ∷ zs) y e = let rest = replaced_found x zs y in grind (arith, common_steps)

  replaced_others : (x : X) (xs : List X) (n : ℕ) → n ≢ key x → lookup key n (replaced key x xs) ≡ lookup key n xs
  replaced_others x [] n h = refl
  replaced_others x (z ∷ zs) n h = let rest = replaced_others x zs n h in grind (arith, common_steps)

  pub replacing : (x : X) (xs : List X) → Replacing key x xs
  replacing x xs = record { found = replaced_found x xs; others = replaced_others x xs; order = rising_replaced key x xs; count = length-map xs (λ y. cond (eqb (key y) (key x)) x y) }
