-- Allowable strengths of a bundle in megapascals, from its culms and what it is designed on. Assumes nothing.
use Rattle.std.specs.Prelude.{ℕ, ◌*◌, cond, List, length, ◌==◌}
use Rattle.exact.specs.Fraction.{Fraction, over}
use Rattle.quantities.specs.Durations.{factor_for}
use Rattle.quantities.specs.declared.basis.DesignBasis.{DesignBasis}
use Rattle.quantities.specs.declared.readings.Readings.{Readings}

-- the redundancy factor C_R in percent: one culm stands alone, several share
abbrev pub redundancy_of : ℕ → ℕ
redundancy_of count = cond (count == 1) 90 110

-- C_R × C_DF × a characteristic strength, in tenths of a megapascal and two percentages
abbrev pub factored_strength : List Readings → DesignBasis → ℕ → ℕ
factored_strength cs b f = f * redundancy_of (length cs) * (factor_for b.class.strength b.duration).value

abbrev pub bending_strength : List Readings → DesignBasis → Fraction
bending_strength cs b = over (factored_strength cs b b.grade.bending.value) (10 * 100 * 100 * 2)

abbrev pub compression_strength : List Readings → DesignBasis → Fraction
compression_strength cs b = over (factored_strength cs b b.grade.compression.value) (10 * 100 * 100 * 2)

abbrev pub tension_strength : List Readings → DesignBasis → Fraction
tension_strength cs b = over (factored_strength cs b b.grade.tension.value) (10 * 100 * 100 * 2)

abbrev pub shear_strength : List Readings → DesignBasis → Fraction
shear_strength cs b = over (factored_strength cs b b.grade.shear.value) (10 * 100 * 100 * 4)

-- E_k × C_DE, in tens of megapascals and a percentage, so in tenths of a megapascal
abbrev pub factored_modulus : DesignBasis → ℕ
factored_modulus b = b.grade.modulus.value * (factor_for b.class.modulus b.duration).value

abbrev pub elastic_modulus : DesignBasis → Fraction
elastic_modulus b = over (factored_modulus b) 10
