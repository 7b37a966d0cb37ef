-- Loads as recorded and grown are proper, and 1.001 times the recorded load lies below the grown one. Assumes nothing.
use Rattle.std.proofs.Common.{ℕ, zero, suc, ◌<◌, ℤ, pos, negsuc, arith}
use Rattle.std.proofs.lemmas.Int.{ints}
use Rattle.exact.specs.Fraction.{Fraction, over, AtMost, times}
use Rattle.exact.specs.Laws.{Positive}
use Rattle.exact.specs.Pi.{lower_pi, upper_pi}
use Rattle.exact.specs.Rounding.{Figured}
use Rattle.exact.specs.Signed.{times_signed, Grows}
use Rattle.quantities.specs.declared.forces.Forces.{Forces}
use Rattle.design_code.specs.Loads.{recorded, grown, grown_size, grown_axial, Proper, GrowsLoad}
use Rattle.clauses.specs.Laws.{times_load}

-- 1.001
abbrev pub growth : Fraction
growth = over 1001 1000

pub growth_positive : Positive growth
growth_positive = record { num = omega arith; den = omega arith }

pub lower_positive : Positive lower_pi
lower_positive = record { num = omega arith; den = omega arith }

pub upper_positive : Positive upper_pi
upper_positive = record { num = omega arith; den = omega arith }

-- the scales
pub moment_scale_some : 0 < 32768
moment_scale_some = omega arith

pub force_scale_some : 0 < 65536
force_scale_some = omega arith

pub near : (f s : ℕ) (low high : Fraction) → Figured f s low high → AtMost high (times growth (over f s))
near f s low high h = omega (arith, h.near)

pub recorded_proper : (f : Forces) → Proper (recorded f)
recorded_proper f = record { axial = omega arith; shear = omega arith; moment = omega arith }

size_den : (n : ℕ) → 0 < (grown_size n).den
size_den zero = omega arith
size_den (suc n) = omega arith

axial_den : (z : ℤ) → 0 < (grown_axial z).den
axial_den (pos n) = size_den n
axial_den (negsuc n) = size_den (suc n)

pub grown_proper : (f : Forces) → Proper (grown f)
grown_proper f = record { axial = axial_den f.axial.newtons; shear = size_den f.shear.value; moment = size_den f.moment.value }

size_grows : (n : ℕ) → AtMost (times growth (over n 1)) (grown_size n)
size_grows zero = omega arith
size_grows (suc n) = omega arith

axial_grows : (z : ℤ) → Grows (times_signed growth (record { num = z; den = 1 })) (grown_axial z)
axial_grows (pos zero) = record { up = λ h. omega (arith, ints); down = λ h. omega (arith, ints) }
axial_grows (pos (suc n)) = record { up = λ h. omega (arith, ints); down = λ h. omega (arith, ints) }
axial_grows (negsuc n) = record { up = λ h. omega (arith, ints); down = λ h. omega (arith, ints) }

pub grown_grows : (f : Forces) → GrowsLoad (times_load growth (recorded f)) (grown f)
grown_grows f =
    record { axial = axial_grows f.axial.newtons; shear = size_grows f.shear.value; moment = size_grows f.moment.value }
