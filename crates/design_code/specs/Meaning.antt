-- What a design code means, and what makes one sound. Assumes nothing.
use Rattle.std.specs.Prelude.{List, ◌⊎◌, ◌≡◌, ℕ, ◌≤◌, ◌<◌, length, Ok, Err}
use Rattle.exact.specs.Fraction.{Fraction}
use Rattle.exact.specs.Pi.{lower_pi, upper_pi}
use Rattle.quantities.specs.declared.basis.DesignBasis.{DesignBasis}
use Rattle.quantities.specs.declared.forces.Forces.{Forces}
use Rattle.quantities.specs.declared.readings.Readings.{Readings}
use Rattle.design_code.specs.Loads.{Load, recorded, grown, Proper, SameLoad}
use Rattle.design_code.specs.Verdicts.{Verdict, all_met, refused_by}

-- the verdict on a bundle under forces
abbrev pub Rule : Type 0
Rule = List Readings → DesignBasis → Forces → Verdict

-- the exact relation of a clause between a bundle, its load and π
abbrev pub Relation : Type 1
Relation = List Readings → DesignBasis → Load → Fraction → Type 0

-- the rule by which a code judges, the numbers of its clauses, and the relation of each
pub record Meaning : Type 1 where
  pub rule : Rule
  pub has : ℕ → Type 0
  pub relation : ℕ → Relation

-- a bundle has one to sixteen culms
pub record Bundled (cs : List Readings) : Type 0 where
  pub some : 0 < length cs
  pub few : length cs ≤ 16

-- the two facts, and that equal fractions count alike
pub record Sound (m : Meaning) : Type 0 where
  pub met : (cs : List Readings) (b : DesignBasis) (f : Forces) → Bundled cs
      → m.rule cs b f ≡ all_met → (k : ℕ) → m.has k → m.relation k cs b (recorded f) lower_pi
  pub refused : (cs : List Readings) (b : DesignBasis) (f : Forces) → Bundled cs
      → (k : ℕ) → m.rule cs b f ≡ refused_by k → m.has k × (m.relation k cs b (grown f) upper_pi → ⊥)
  pub alike : (k : ℕ) (cs : List Readings) (b : DesignBasis) (l n : Load) (p : Fraction) → Bundled cs → 0 < p.num → 0 < p.den
      → Proper l → Proper n → SameLoad l n → m.relation k cs b l p → m.relation k cs b n p

-- the first verdict, and where that is met the second
abbrev pub first : Verdict → Verdict → Verdict
first (Ok _) w = w
first (Err r) w = Err r

-- two codes joined: a number that both have means both relations together
abbrev pub joined_with : Meaning → Meaning → Meaning
joined_with x y = record {
  rule = λ cs b f. first (x.rule cs b f) (y.rule cs b f);
  has = λ k. x.has k ⊎ y.has k;
  relation = λ k cs b l p. (x.has k → x.relation k cs b l p) × (y.has k → y.relation k cs b l p);
}

-- what a verdict is worth: met, and every relation holds exactly; refused, and the load grown a little breaks the clause named
pub record Judged (m : Meaning) (cs : List Readings) (b : DesignBasis) (f : Forces) (v : Verdict) : Type 0 where
  pub by_the_rule : v ≡ m.rule cs b f
  pub met : v ≡ all_met → (k : ℕ) → m.has k → m.relation k cs b (recorded f) lower_pi
  pub refused : (k : ℕ) → v ≡ refused_by k → m.has k × (m.relation k cs b (grown f) upper_pi → ⊥)
