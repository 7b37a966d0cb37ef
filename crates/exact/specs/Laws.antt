-- What the definitions of fractions come to, as laws. Assumes nothing.
use Rattle.std.specs.Prelude.{ℕ, ◌+◌, ◌*◌, ◌<◌, ◌≤◌, List, sum_by}
use Rattle.exact.specs.Fraction.{Fraction, whole, AtMost, Under, plus, times, minus, quotient, total_by}

-- numerator and denominator above 0
pub record Positive (f : Fraction) : Type 0 where
  pub num : 0 < f.num
  pub den : 0 < f.den

-- the same number
pub record Same (a b : Fraction) : Type 0 where
  pub up : AtMost a b
  pub down : AtMost b a

pub record FractionLaws : Type 0 where
  pub wholes_in_order : (m n : ℕ) → m ≤ n → AtMost (whole m) (whole n)
  pub wholes_in_no_other_order : (m n : ℕ) → AtMost (whole m) (whole n) → m ≤ n
  pub transitive : (a b c : Fraction) → 0 < b.den → AtMost a b → AtMost b c → AtMost a c
  pub under_is_not_at_least : (a b : Fraction) → Under a b → AtMost b a → ⊥
  pub at_most_or_over : (a b : Fraction) → (AtMost a b → ⊥) → Under b a
  pub sums_of_wholes : (m n : ℕ) → Same (plus (whole m) (whole n)) (whole (m + n))
  pub totals_of_wholes : (f : ℕ → ℕ) (ns : List ℕ) → Same (total_by (λ n. whole (f n)) ns) (whole (sum_by f ns))
  pub products_of_wholes : (m n : ℕ) → Same (times (whole m) (whole n)) (whole (m * n))
  pub sums_grow : (a b c d : Fraction) → AtMost a b → AtMost c d → AtMost (plus a c) (plus b d)
  pub products_grow : (a b c d : Fraction) → AtMost a b → AtMost c d → AtMost (times a c) (times b d)
  pub difference_and_back : (a b : Fraction) → AtMost b a → Same (plus (minus a b) b) a
  pub quotient_and_back : (a b : Fraction) → Same (times (quotient a b) b) a
