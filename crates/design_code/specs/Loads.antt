-- The forces on a bundle as fractions, as recorded and grown a little. Assumes nothing.
use Rattle.std.specs.Prelude.{ℕ, zero, suc, ◌<◌, ℤ, pos, negsuc, neg_ℤ}
use Rattle.exact.specs.Fraction.{Fraction, over, whole, plus, times, AtMost}
use Rattle.exact.specs.Laws.{Same}
use Rattle.exact.specs.Signed.{Signed, SameSigned, Grows}
use Rattle.quantities.specs.declared.forces.Forces.{Forces}

-- axial force (positive in compression, negative in tension), shear force and bending moment
pub record Load : Type 0 where
  pub axial : Signed
  pub shear : Fraction
  pub moment : Fraction

abbrev pub recorded : Forces → Load
recorded f = record {
  axial = record { num = f.axial.newtons; den = 1 };
  shear = whole f.shear.value;
  moment = whole f.moment.value;
}

-- 0 stays, and any other magnitude F becomes F × 1001 / 1000 + 1
abbrev pub grown_size : ℕ → Fraction
grown_size zero = whole 0
grown_size (suc n) = plus (times (whole (suc n)) (over 1001 1000)) (whole 1)

-- with its sign kept
abbrev pub grown_axial : ℤ → Signed
grown_axial (pos n) = record { num = pos (grown_size n).num; den = (grown_size n).den }
grown_axial (negsuc n) = record { num = neg_ℤ (pos (grown_size (suc n)).num); den = (grown_size (suc n)).den }

abbrev pub grown : Forces → Load
grown f = record {
  axial = grown_axial f.axial.newtons;
  shear = grown_size f.shear.value;
  moment = grown_size f.moment.value;
}

-- every denominator is above 0
pub record Proper (l : Load) : Type 0 where
  pub axial : 0 < l.axial.den
  pub shear : 0 < l.shear.den
  pub moment : 0 < l.moment.den

-- equal fractions
pub record SameLoad (l m : Load) : Type 0 where
  pub axial : SameSigned l.axial m.axial
  pub shear : Same l.shear m.shear
  pub moment : Same l.moment m.moment

-- no force is smaller, and each has its sign kept
pub record GrowsLoad (l m : Load) : Type 0 where
  pub axial : Grows l.axial m.axial
  pub shear : AtMost l.shear m.shear
  pub moment : AtMost l.moment m.moment
