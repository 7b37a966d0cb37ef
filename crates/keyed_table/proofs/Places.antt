-- The place of a number among rows that rise, and a turn of a search by halves. It assumes nothing.
use Rattle.std.proofs.Common.{◌≡◌, ℕ, zero, suc, ◌+◌, ◌-◌, ◌*◌, ◌^◌, ◌<◌, ◌≤◌, ltb, List, [], ◌∷◌, length, get_or, ap, ◌∙◌, arith}
use native.Mathlib.Nat.{pow-succ'}
use Rattle.std.proofs.lemmas.Bool.{cond_both, ltb-true, ltb-false}
use Rattle.keyed_table.specs.Rows.{StrictlyRising, below, NoRowHas}
use Rattle.keyed_table.proofs.Orders.{far}

module _ {X : Type 0} (key : X → ℕ) (n : ℕ) where
  -- the first m rows have a number below n, and the next one has not
  pub record Place (xs : List X) (m : ℕ) : Type 0 where
    pub within : m ≤ length xs
    pub before : (k : ℕ) → k < m → (d : X) → key (get_or xs k d) < n
    pub here : m < length xs → (d : X) → n ≤ key (get_or xs m d)

  before_cons : (x : X) (xs : List X) (m : ℕ) → key x < n → ((k : ℕ) → k < m → (d : X) → key (get_or xs k d) < n) → (k : ℕ) → k < suc m → (d : X) → key (get_or (x ∷ xs) k d) < n
  before_cons x xs m h b zero l d = h
  before_cons x xs m h b (suc k) l d = b k (omega arith) d

  pub place_below : (xs : List X) → Place xs (below key n xs)
  place_below [] = record { within = omega arith; before = λ k h d. absurd (omega arith); here = λ h d. absurd (omega arith) }
  place_below (x ∷ xs) =
      let p = place_below xs in
      cond_both (ltb (key x) n) (suc (below key n xs)) 0 (Place (x ∷ xs))
      (λ e. record { within = omega (arith, p.within); before = before_cons x xs (below key n xs) (ltb-true (key x) n e) p.before; here = λ h d. p.here (omega arith) d })
      (λ e. record { within = omega arith; before = λ k h d. absurd (omega arith); here = λ h d. ltb-false (key x) n e })

  -- a row from the place on has n or more
  from_place : (xs : List X) → StrictlyRising key xs → (k : ℕ) (d : X) → below key n xs ≤ k → k < length xs → n ≤ key (get_or xs k d)
  from_place xs r k d l h = let first = (place_below xs).here (omega arith) d in grind (arith, far key xs r (below key n xs) k d)

  pub place_after_lem : (xs : List X) (k : ℕ) (d : X) → StrictlyRising key xs → k < length xs → key (get_or xs k d) < n → k + 1 ≤ below key n xs
  place_after_lem xs k d r l h = grind (arith, from_place xs r k d)

  pub place_at_most : (xs : List X) (k : ℕ) (d : X) → n ≤ key (get_or xs k d) → below key n xs ≤ k
  place_at_most xs k d h = let before = (place_below xs).before k in grind (arith, before)

  -- where the row at the place has another number, or there is none, no row has n
  pub lacks : (xs : List X) (i : ℕ) → StrictlyRising key xs → i ≡ below key n xs → ((d : X) → i < length xs → key (get_or xs i d) ≡ n → ⊥) → NoRowHas key n xs
  lacks xs i r b h j d l e =
      let most = place_at_most xs j d (omega arith) in
      let first = (place_below xs).here (omega arith) d in
      grind (arith, h d, far key xs r i j d)

-- a turn halves the rows in question
pub turn_halves : (size new turns turn : ℕ) → turn < turns → size < 2 ^ (turns - turn) → 2 * new ≤ size → new < 2 ^ (turns - (turn + 1))
turn_halves size new turns turn l h s =
    let e : turns - turn ≡ suc (turns - (turn + 1)) = omega arith in
    omega (arith, ap (λ k. 2 ^ k) e ∙ pow-succ' 2 (turns - (turn + 1)))
