-- Fractions with a sign: a whole numerator over a whole number above 0. Assumes nothing.
use Rattle.std.specs.Prelude.{◌≡◌, ℕ, ◌*◌, ℤ, pos, ◌*ℤ◌, ◌≤ℤ◌, ◌<ℤ◌, unsigned_abs}
use Rattle.exact.specs.Fraction.{Fraction, over}

pub record Signed : Type 0 where
  pub num : ℤ
  pub den : ℕ

-- the magnitude of a
abbrev pub size : Signed → Fraction
size a = over (unsigned_abs a.num) a.den

abbrev pub times_signed : Fraction → Signed → Signed
times_signed k a = record { num = pos k.num *ℤ a.num; den = k.den * a.den }

-- the same number
abbrev pub SameSigned : Signed → Signed → Type 0
SameSigned a b = (a.num *ℤ pos b.den) ≡ (b.num *ℤ pos a.den)

-- b lies at least as far from 0 as a, on the same side; from 0 it may go to either side
pub record Grows (a b : Signed) : Type 0 where
  pub up : pos 0 <ℤ a.num → (a.num *ℤ pos b.den) ≤ℤ (b.num *ℤ pos a.den)
  pub down : a.num <ℤ pos 0 → (b.num *ℤ pos a.den) ≤ℤ (a.num *ℤ pos b.den)
