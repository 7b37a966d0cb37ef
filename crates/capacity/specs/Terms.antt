-- What one culm adds to a bundle, from its readings: outer diameter D, wall δ and inner diameter d = D − 2δ in tenths of a
-- millimetre. Assumes nothing.
use Rattle.std.specs.Prelude.{ℕ, ◌-◌, ◌*◌}
use Rattle.exact.specs.Fraction.{Fraction, over}
use Rattle.quantities.specs.declared.readings.Readings.{Readings}

abbrev pub outer_diameter : Readings → ℕ
outer_diameter c = c.diameter.value

abbrev pub inner_diameter : Readings → ℕ
inner_diameter c = outer_diameter c - 2 * c.wall.value

-- D² − d²
abbrev pub ring_area : Readings → ℕ
ring_area c = outer_diameter c * outer_diameter c - inner_diameter c * inner_diameter c

-- D³ − d³
abbrev pub cubes : Readings → ℕ
cubes c = outer_diameter c * outer_diameter c * outer_diameter c - inner_diameter c * inner_diameter c * inner_diameter c

-- D⁴ − d⁴
abbrev pub second_moment : Readings → ℕ
second_moment c = outer_diameter c * outer_diameter c * outer_diameter c * outer_diameter c - inner_diameter c * inner_diameter c * inner_diameter c * inner_diameter c

-- (D⁴ − d⁴) / D
abbrev pub section_modulus : Readings → Fraction
section_modulus c = over (second_moment c) (outer_diameter c)

-- 3 δ (D⁴ − d⁴) / (8 (D³ − d³))
abbrev pub shear_area : Readings → Fraction
shear_area c = over (3 * c.wall.value * second_moment c) (8 * cubes c)
