-- What culms add to the figures at a factored strength. Assumes nothing.
use Rattle.std.specs.Prelude.{ℕ, ◌*◌}
use Rattle.exact.specs.Fraction.{over, whole, times, quotient}
use Rattle.exact.specs.Rounding.{rounded_down}
use Rattle.quantities.specs.declared.readings.Readings.{Readings}
use Rattle.exact.specs.Pi.{lower_pi}
use Rattle.capacity.specs.Capacities.{moment_factor, shear_factor}
use Rattle.capacity.specs.Figures.{moment_scale, force_scale, cube_below}
use Rattle.capacity.specs.Terms.{section_modulus, shear_area}

abbrev pub moment_share : ℕ → Readings → ℕ
moment_share strength c = rounded_down (times (whole moment_scale) (times (moment_factor lower_pi (over strength 200000)) (section_modulus c)))

abbrev pub shear_share : ℕ → Readings → ℕ
shear_share strength c = rounded_down (times (whole force_scale) (times (shear_factor lower_pi (over strength 400000)) (shear_area c)))

-- strength × p / 400 × area
abbrev pub axial_share : (strength area : ℕ) → ℕ
axial_share strength area = rounded_down (times (whole force_scale) (times (quotient (times (over strength 200000) lower_pi) (whole 400)) (whole area)))

-- p³ × modulus × straightness × second moment over the length squared
abbrev pub buckling_share : (modulus straightness moment length : ℕ) → ℕ
buckling_share modulus straightness moment length =
    rounded_down (times (whole force_scale) (quotient (times (times cube_below (over modulus 10)) (times (over straightness 100) (whole moment)))
    (whole (64 * 10000 * (length * length)))))
