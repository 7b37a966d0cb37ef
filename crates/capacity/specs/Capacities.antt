-- The five capacities of a bundle as exact fractions, with p for π. Assumes nothing.
use Rattle.std.specs.Prelude.{ℕ, ◌*◌, min, List, fold, sum_by}
use Rattle.exact.specs.Fraction.{Fraction, over, whole, times, quotient, total_by}
use Rattle.quantities.specs.declared.basis.DesignBasis.{DesignBasis}
use Rattle.quantities.specs.declared.readings.Readings.{Readings}
use Rattle.capacity.specs.Strengths.{bending_strength, compression_strength, tension_strength, shear_strength, elastic_modulus}
use Rattle.capacity.specs.Terms.{ring_area, second_moment, section_modulus, shear_area}

-- M_r = f_m × p / (32 × 10⁶) × Σ (D⁴ − d⁴) / D, in newton metres
abbrev pub moment_factor : (p strength : Fraction) → Fraction
moment_factor p strength = quotient (times strength p) (whole (32 * 1000000))

abbrev pub moment_capacity : Fraction → List Readings → DesignBasis → Fraction
moment_capacity p cs b = times (moment_factor p (bending_strength cs b)) (total_by section_modulus cs)

-- V_r = f_v × p / 100 × Σ 3 δ (D⁴ − d⁴) / (8 (D³ − d³)), in newtons
abbrev pub shear_factor : (p strength : Fraction) → Fraction
shear_factor p strength = quotient (times strength p) (whole 100)

abbrev pub shear_capacity : Fraction → List Readings → DesignBasis → Fraction
shear_capacity p cs b = times (shear_factor p (shear_strength cs b)) (total_by shear_area cs)

-- f × p / 400 × Σ (D² − d²), in newtons: N_t with f_t, P_c with f_c
abbrev pub axial_capacity : (p strength : Fraction) → List Readings → Fraction
axial_capacity p strength cs = times (quotient (times strength p) (whole 400)) (whole (sum_by ring_area cs))

abbrev pub tension_capacity : Fraction → List Readings → DesignBasis → Fraction
tension_capacity p cs b = axial_capacity p (tension_strength cs b) cs

abbrev pub crushing_capacity : Fraction → List Readings → DesignBasis → Fraction
crushing_capacity p cs b = axial_capacity p (compression_strength cs b) cs

-- the least straightness of a bundle, in percent
abbrev pub least_straightness : List Readings → ℕ
least_straightness cs = fold (λ least c. min least c.straightness.value) 100 cs

-- with p³ given: p³ × E × C_bow × Σ (D⁴ − d⁴) / (64 × 10⁴ × L²), in newtons
abbrev pub buckling_from : (cube : Fraction) → List Readings → DesignBasis → Fraction
buckling_from cube cs b =
    quotient (times (times cube (elastic_modulus b)) (times (over (least_straightness cs) 100) (whole (sum_by second_moment cs))))
    (whole (64 * 10000 * (b.length.value * b.length.value)))

-- P_e
abbrev pub buckling_capacity : Fraction → List Readings → DesignBasis → Fraction
buckling_capacity p cs b = buckling_from (times p (times p p)) cs b
