-- What the four codes of the shop mean. Assumes nothing.
use Rattle.std.specs.Prelude.{◌≡◌, ℕ, ◌*◌, List}
use Rattle.exact.specs.Deciding.{at_most}
use Rattle.exact.specs.Fraction.{Fraction}
use Rattle.quantities.specs.declared.basis.DesignBasis.{DesignBasis}
use Rattle.quantities.specs.declared.readings.Readings.{Readings}
use Rattle.capacity.specs.Capacities.{moment_capacity, shear_capacity, tension_capacity, crushing_capacity, buckling_capacity}
use Rattle.capacity.specs.Figures.{moment_figure, shear_figure, tension_figure, crushing_figure, buckling_figure}
use Rattle.clauses.specs.Clauses.{Capacities, Bending, Shear, Tension, Compression}
use Rattle.clauses.specs.Laws.{Clause}
use Rattle.design_code.specs.Meaning.{Rule, Meaning, joined_with}
use Rattle.shop_code.specs.Deciding.{verdict_by, pulls_within?, presses_within?}

-- the exact capacities of a bundle, with p for π
abbrev pub capacities_of : Fraction → List Readings → DesignBasis → Capacities
capacities_of p cs b = record {
  moment = moment_capacity p cs b;
  shear = shear_capacity p cs b;
  tension = tension_capacity p cs b;
  crushing = crushing_capacity p cs b;
  buckling = buckling_capacity p cs b;
}

-- a code with one clause, which has the number k
abbrev pub one_clause : ℕ → Clause → Rule → Meaning
one_clause k P rule = record { rule = rule; has = λ j. j ≡ k; relation = λ j cs b l p. P (capacities_of p cs b) l }

abbrev pub bending_rule : Rule
bending_rule cs b f = verdict_by 1 (at_most (f.moment.value * 32768) (moment_figure cs b))

abbrev pub shear_rule : Rule
shear_rule cs b f = verdict_by 2 (at_most (f.shear.value * 65536) (shear_figure cs b))

abbrev pub tension_rule : Rule
tension_rule cs b f = verdict_by 3 (pulls_within? (moment_figure cs b) (tension_figure cs b) f.axial.newtons f.moment.value)

abbrev pub compression_rule : Rule
compression_rule cs b f =
    verdict_by 4 (presses_within? (moment_figure cs b) (buckling_figure cs b) (crushing_figure cs b) f.axial.newtons f.moment.value)

abbrev pub bending_meaning : Meaning
bending_meaning = one_clause 1 Bending bending_rule

abbrev pub shear_meaning : Meaning
shear_meaning = one_clause 2 Shear shear_rule

abbrev pub tension_meaning : Meaning
tension_meaning = one_clause 3 Tension tension_rule

abbrev pub compression_meaning : Meaning
compression_meaning = one_clause 4 Compression compression_rule

-- clauses 1 to 4, joined in that order
abbrev pub shop_meaning : Meaning
shop_meaning = joined_with (joined_with (joined_with bending_meaning shear_meaning) tension_meaning) compression_meaning
