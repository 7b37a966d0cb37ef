-- What rounding down costs. Assumes nothing.
use Rattle.std.proofs.Common.{ℕ, ◌+◌, ◌*◌, ◌<◌, ◌≤◌, List, [], ◌∷◌, length, mul-le-mul_right, mul-pos, div-mul-le_self, arith}
use native.Mathlib.Nat.{lt-div-mul-add, le_of_mul-le-mul_left}
use Rattle.std.proofs.lemmas.List.Sums.{sum_by-cons}
use Rattle.exact.specs.Fraction.{Fraction, over, whole, times, total_by, AtMost}
use Rattle.exact.specs.Rounding.{rounded_down, sum_of_parts, Figured}

-- the second of two fractions is at most 4001/4000 of the first
abbrev pub Nearby : Fraction → Fraction → Type 0
Nearby a b = AtMost b (times (over 4001 4000) a)

pub rounded_below : (f : Fraction) → rounded_down f * f.den ≤ f.num
rounded_below f = div-mul-le_self f.num f.den

pub rounded_near : (f : Fraction) → 0 < f.den → f.num ≤ (rounded_down f + 1) * f.den
rounded_near f p = omega (arith, lt-div-mul-add {a = f.num} p)

-- one fraction rounded down on a scale of s
module _ (s : ℕ) (x : Fraction) (px : 0 < x.den) where
  abbrev n : ℕ
  n = rounded_down (times (whole s) x)

  pub once_below : AtMost (over n s) x
  once_below = omega (arith, rounded_below (times (whole s) x))

  pub once_near : (high : Fraction) → Nearby x high → 2000 ≤ n → AtMost high (over (n * 1001) (s * 1000))
  once_near high near large =
      let up : s * x.num ≤ (n + 1) * x.den = omega (arith, rounded_near (times (whole s) x) (omega arith)) in
      let h : x.den * (4000 * (high.num * s)) ≤ x.den * (4001 * ((n + 1) * high.den)) =
      omega (arith, mul-le-mul_right s near, mul-le-mul_right (4001 * high.den) up) in
      omega (arith, le_of_mul-le-mul_left h px, mul-le-mul_right high.den large)

  pub figured_once : (low high : Fraction) → AtMost x low → Nearby x high → 2000 ≤ n → Figured n s low high
  figured_once low high under near large = record {
    below =
        (let h : x.den * (n * low.den) ≤ x.den * (low.num * s) =
        omega (arith, mul-le-mul_right low.den once_below, mul-le-mul_right s under) in
        le_of_mul-le-mul_left h px);
    near = once_near high near large;
  }

-- a sum of parts rounded down on a scale of s
module _ {X : Type 0} (s : ℕ) (k : Fraction) (f : X → Fraction) where
  abbrev part : X → ℕ
  part x = rounded_down (times (whole s) (times k (f x)))

  pub sum_below : (xs : List X) → AtMost (over (sum_of_parts s k f xs) s) (times k (total_by f xs))
  sum_below [] = omega arith
  sum_below (x ∷ xs) =
      let t : Fraction = total_by f xs in
      rw (sum_by-cons part x xs)
      (omega (arith, mul-le-mul_right t.den (rounded_below (times (whole s) (times k (f x)))), mul-le-mul_right (f x).den (sum_below xs)))

  module _ (pk : 0 < k.den) (pf : (x : X) → 0 < (f x).den) where
    pub total_den : (xs : List X) → 0 < (total_by f xs).den
    total_den [] = omega arith
    total_den (x ∷ xs) = mul-pos (pf x) (total_den xs)

    sum_near : (xs : List X) → AtMost (times (whole s) (times k (total_by f xs))) (whole (sum_of_parts s k f xs + length xs))
    sum_near [] = omega arith
    sum_near (x ∷ xs) =
        let t : Fraction = total_by f xs in
        let here = rounded_near (times (whole s) (times k (f x))) (omega (arith, mul-pos pk (pf x))) in
        rw (sum_by-cons part x xs)
        (omega (arith, mul-le-mul_right t.den here, mul-le-mul_right (f x).den (sum_near xs)))

    module _ (large : (x : X) → 2000 ≤ part x) where
      pub sum_large : (xs : List X) → 2000 * length xs ≤ sum_of_parts s k f xs
      sum_large [] = omega arith
      sum_large (x ∷ xs) = rw (sum_by-cons part x xs) (omega (arith, large x, sum_large xs))

      pub figured_sum : (k' : Fraction) → Nearby k k' → (xs : List X)
          → Figured (sum_of_parts s k f xs) s (times k (total_by f xs)) (times k' (total_by f xs))
      figured_sum k' near xs =
          let t : Fraction = total_by f xs in
          let n : ℕ = sum_of_parts s k f xs in
          let up : s * (k.num * t.num) ≤ (n + length xs) * (k.den * t.den) = omega (arith, sum_near xs) in
          let h : k.den * (4000 * (k'.num * t.num * s)) ≤ k.den * (4001 * ((n + length xs) * (k'.den * t.den))) =
          omega (arith, mul-le-mul_right (s * t.num) near, mul-le-mul_right (4001 * k'.den) up) in
          record {
            below = sum_below xs;
            near = omega (arith, le_of_mul-le-mul_left h pk, mul-le-mul_right (k'.den * t.den) (sum_large xs));
          }
