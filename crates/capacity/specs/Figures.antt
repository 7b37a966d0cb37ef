-- The capacities in whole numbers, from below: moments in 1/32768 newton metre, forces in 1/65536 newton. Assumes nothing.
use Rattle.std.specs.Prelude.{ℕ, List}
use Rattle.exact.specs.Fraction.{Fraction, over, whole, times}
use Rattle.exact.specs.Rounding.{rounded_down, sum_of_parts}
use Rattle.quantities.specs.declared.basis.DesignBasis.{DesignBasis}
use Rattle.quantities.specs.declared.readings.Readings.{Readings}
use Rattle.exact.specs.Pi.{lower_pi}
use Rattle.capacity.specs.Capacities.{moment_factor, shear_factor, tension_capacity, crushing_capacity, buckling_from}
use Rattle.capacity.specs.Strengths.{bending_strength, shear_strength}
use Rattle.capacity.specs.Terms.{section_modulus, shear_area}

abbrev pub moment_scale : ℕ
moment_scale = 32768

abbrev pub force_scale : ℕ
force_scale = 65536

-- each culm's part rounded down
abbrev pub moment_figure : List Readings → DesignBasis → ℕ
moment_figure cs b = sum_of_parts moment_scale (moment_factor lower_pi (bending_strength cs b)) section_modulus cs

abbrev pub shear_figure : List Readings → DesignBasis → ℕ
shear_figure cs b = sum_of_parts force_scale (shear_factor lower_pi (shear_strength cs b)) shear_area cs

abbrev pub tension_figure : List Readings → DesignBasis → ℕ
tension_figure cs b = rounded_down (times (whole force_scale) (tension_capacity lower_pi cs b))

abbrev pub crushing_figure : List Readings → DesignBasis → ℕ
crushing_figure cs b = rounded_down (times (whole force_scale) (crushing_capacity lower_pi cs b))

-- a little under 3.14159265³
abbrev pub cube_below : Fraction
cube_below = over 31006276 1000000

abbrev pub buckling_figure : List Readings → DesignBasis → ℕ
buckling_figure cs b = rounded_down (times (whole force_scale) (buckling_from cube_below cs b))
