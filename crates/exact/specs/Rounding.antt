-- Fractions rounded down, and whole numbers that stand for a fraction from below. Assumes nothing.
use Rattle.std.specs.Prelude.{ℕ, ◌*◌, ◌/◌, List, sum_by}
use Rattle.exact.specs.Fraction.{Fraction, over, whole, times, AtMost}

-- the greatest whole number that is not above f
abbrev pub rounded_down : Fraction → ℕ
rounded_down f = f.num / f.den

-- k times each f x, on a scale of s to the unit, rounded down and summed
abbrev pub sum_of_parts : {X : Type 0} (s : ℕ) (k : Fraction) (f : X → Fraction) → List X → ℕ
sum_of_parts s k f xs = sum_by (λ x. rounded_down (times (whole s) (times k (f x)))) xs

-- the whole number n, on a scale of s to the unit, is at most low, and high is at most 1.001 times it
pub record Figured (n s : ℕ) (low high : Fraction) : Type 0 where
  pub below : AtMost (over n s) low
  pub near : AtMost high (over (n * 1001) (s * 1000))
