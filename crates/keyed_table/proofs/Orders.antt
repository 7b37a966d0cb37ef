-- Rows whose numbers rise, and that a change keeps the order. It assumes nothing.
use Rattle.std.proofs.Common.{◌≡◌, ℕ, zero, suc, ◌+◌, ◌-◌, ◌<◌, ◌≤◌, cond, eqb, List, [], ◌∷◌, map, length, get_or, sym, ap, ◌∙◌, add-zero, arith}
use mathlib.Core.List.{map-map}
use Rattle.std.proofs.Math.ListN.{get_or-map}
use Rattle.std.proofs.lemmas.List.{length-map}
use Rattle.std.proofs.lemmas.Grind.{common_steps}
use Rattle.keyed_table.specs.Rows.{StrictlyRising, NoRowHas, added, without, replaced}

-- any two rows rise
abbrev pub Far : {X : Type 0} → (X → ℕ) → List X → Type 0
Far {X} key xs = (i j : ℕ) (d : X) → i < j → j < length xs → key (get_or xs i d) < key (get_or xs j d)

-- the numbers are n or more, and rise
abbrev pub From : {X : Type 0} → (X → ℕ) → ℕ → List X → Type 0
From key n [] = Unit {0}
From key n (x ∷ xs) = (n ≤ key x) × From key (suc (key x)) xs

module _ {X : Type 0} (key : X → ℕ) where
  -- from neighbours to any two
  gap : (xs : List X) → StrictlyRising key xs → (k i : ℕ) (d : X) → i + 1 + k < length xs → key (get_or xs i d) < key (get_or xs (i + 1 + k) d)
  gap xs r zero i d h = omega (arith, r i d (omega arith), ap (λ j. key (get_or xs j d)) (add-zero (i + 1)))
  gap xs r (suc k) i d h =
      let e : i + 1 + suc k ≡ (i + 1 + k) + 1 = omega arith in
      omega (arith, gap xs r k i d (omega arith), r (i + 1 + k) d (omega arith), ap (λ j. key (get_or xs j d)) e)

  pub far : (xs : List X) → StrictlyRising key xs → Far key xs
  far xs r i j d l h =
      let e : i + 1 + (j - (i + 1)) ≡ j = omega arith in
      omega (arith, gap xs r (j - (i + 1)) i d (omega arith), ap (λ k. key (get_or xs k d)) e)

  from_far : (n : ℕ) (xs : List X) → ((d : X) → 0 < length xs → n ≤ key (get_or xs 0 d)) → Far key xs → From key n xs
  from_far n [] h f = tt
  from_far n (x ∷ xs) h f =
      (h x (omega arith), from_far (suc (key x)) xs (λ d l. f 0 1 d (omega arith) (omega arith)) (λ i j d l m. f (suc i) (suc j) d (omega arith) (omega arith)))

  pub from : (xs : List X) → StrictlyRising key xs → From key 0 xs
  from xs r = from_far 0 xs (λ d l. omega arith) (far xs r)

  pub from_row : (n : ℕ) (xs : List X) (i : ℕ) (d : X) → From key n xs → i < length xs → n ≤ key (get_or xs i d)
  from_row n [] i d f h = absurd (omega arith)
  from_row n (x ∷ xs) zero d f h = f.0
  from_row n (x ∷ xs) (suc i) d f h = omega (arith, f.0, from_row (suc (key x)) xs i d f.1 (omega arith))

  far_from : (n : ℕ) (xs : List X) → From key n xs → Far key xs
  far_from n [] f i j d l h = absurd (omega arith)
  far_from n (x ∷ xs) f i zero d l h = absurd (omega arith)
  far_from n (x ∷ xs) f zero (suc j) d l h = from_row (suc (key x)) xs j d f.1 (omega arith)
  far_from n (x ∷ xs) f (suc i) (suc j) d l h = far_from (suc (key x)) xs f.1 i j d (omega arith) (omega arith)

  pub rising : (n : ℕ) (xs : List X) → From key n xs → StrictlyRising key xs
  rising n xs f i d h = far_from n xs f i (i + 1) d (omega arith) h

  pub from_lower : (m n : ℕ) (xs : List X) → m ≤ n → From key n xs → From key m xs
  from_lower m n [] h f = tt
  from_lower m n (x ∷ xs) h f = (omega (arith, f.0), f.1)

  pub from_lacks : (m n : ℕ) (xs : List X) → n < m → From key m xs → NoRowHas key n xs
  from_lacks m n xs h f i d l e = omega (arith, from_row m xs i d f l)

  pub lacks_tail : (n : ℕ) (x : X) (xs : List X) → NoRowHas key n (x ∷ xs) → NoRowHas key n xs
  lacks_tail n x xs a i d h e = a (suc i) d (omega arith) e

  -- the order is one of numbers alone
  pub rising_same : (xs ys : List X) → map key ys ≡ map key xs → StrictlyRising key xs → StrictlyRising key ys
  rising_same xs ys e r i d h =
      let at : (k : ℕ) → key (get_or ys k d) ≡ key (get_or xs k d) = λ k. sym (get_or-map key ys k d) ∙ (ap (λ ns. get_or ns k (key d)) e ∙ get_or-map key xs k d) in
      let long = sym (length-map ys key) ∙ (ap length e ∙ length-map xs key) in
      omega (arith, at i, at (i + 1), r i d (omega (arith, long)))

  from_without : (n m : ℕ) (xs : List X) → From key m xs → From key m (without key n xs)
  from_without n m [] f = tt
  from_without n m (x ∷ xs) f =
      let rest = from_without n (suc (key x)) xs f.1 in
      let lower = from_lower m (suc (key x)) (without key n xs) (omega (arith, f.0)) rest in
      grind (arith, common_steps)

  from_added : (x : X) (m : ℕ) (xs : List X) → From key m xs → m ≤ key x → NoRowHas key (key x) xs → From key m (added key x xs)
  from_added x m [] f h a = (h, tt)
  from_added x m (y ∷ ys) f h a =
      let rest = from_added x (suc (key y)) ys f.1 in
      let apart = a 0 y (omega arith) in
      let tail = lacks_tail (key x) y ys a in
      grind (arith, common_steps)

  pub keeps_number : (x y : X) → key (cond (eqb (key y) (key x)) x y) ≡ key y
  keeps_number x y = grind (arith, common_steps)

  pub rising_without : (n : ℕ) (xs : List X) → StrictlyRising key xs → StrictlyRising key (without key n xs)
  rising_without n xs r = rising 0 (without key n xs) (from_without n 0 xs (from xs r))

  pub rising_added : (x : X) (xs : List X) → NoRowHas key (key x) xs → StrictlyRising key xs → StrictlyRising key (added key x xs)
  rising_added x xs a r = rising 0 (added key x xs) (from_added x 0 xs (from xs r) (omega arith) a)

  pub rising_replaced : (x : X) (xs : List X) → StrictlyRising key xs → StrictlyRising key (replaced key x xs)
  rising_replaced x xs r = rising_same xs (replaced key x xs) (map-map key (λ y. cond (eqb (key y) (key x)) x y) xs ∙ (λ i. map (λ y. keeps_number x y i) xs)) r
