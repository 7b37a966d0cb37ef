-- What the rule of a sound code says is worth what a verdict promises. Assumes nothing.
use mathlib.Core.List.{List}
use mathlib.Core.Path.{◌≡◌, sym, ◌∙◌}
use Rattle.quantities.specs.declared.basis.DesignBasis.{DesignBasis}
use Rattle.quantities.specs.declared.forces.Forces.{Forces}
use Rattle.quantities.specs.declared.readings.Readings.{Readings}
use Rattle.design_code.specs.Meaning.{Meaning, Sound, Bundled, Judged}
use Rattle.design_code.specs.Verdicts.{Verdict}

pub worth : (m : Meaning) → Sound m → (cs : List Readings) (b : DesignBasis) (f : Forces) (v : Verdict) → Bundled cs
    → v ≡ m.rule cs b f → Judged m cs b f v
worth m s cs b f v n e = record {
  by_the_rule = e;
  met = λ h. s.met cs b f n (sym e ∙ h);
  refused = λ k h. s.refused cs b f n k (sym e ∙ h);
}
