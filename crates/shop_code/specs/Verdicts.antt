-- What a verdict of the shop code says, clause by clause. Assumes nothing.
use Rattle.std.specs.Prelude.{◌≡◌, ℕ, ◌⊎◌, List}
use Rattle.exact.specs.Pi.{lower_pi, upper_pi}
use Rattle.quantities.specs.declared.basis.DesignBasis.{DesignBasis}
use Rattle.quantities.specs.declared.forces.Forces.{Forces}
use Rattle.quantities.specs.declared.readings.Readings.{Readings}
use Rattle.clauses.specs.Clauses.{Bending, Shear, Tension, Compression}
use Rattle.clauses.specs.Laws.{Clause}
use Rattle.design_code.specs.Loads.{recorded, grown}
use Rattle.design_code.specs.Verdicts.{Verdict, all_met, refused_by}
use Rattle.shop_code.specs.Shop.{capacities_of, shop_meaning}

-- the clause holds for the recorded forces at the lower p
abbrev pub MetExactly : Clause → List Readings → DesignBasis → Forces → Type 0
MetExactly P cs b f = P (capacities_of lower_pi cs b) (recorded f)

-- the clause does not hold for the grown forces at the upper p
abbrev pub BrokenWhenGrown : Clause → List Readings → DesignBasis → Forces → Type 0
BrokenWhenGrown P cs b f = P (capacities_of upper_pi cs b) (grown f) → ⊥

pub record AllMet (cs : List Readings) (b : DesignBasis) (f : Forces) : Type 0 where
  pub bending : MetExactly Bending cs b f
  pub shear : MetExactly Shear cs b f
  pub tension : MetExactly Tension cs b f
  pub compression : MetExactly Compression cs b f

-- refused by the clause of number k
pub record RefusedBy (k : ℕ) (cs : List Readings) (b : DesignBasis) (f : Forces) : Type 0 where
  pub numbered : (k ≡ 1) ⊎ ((k ≡ 2) ⊎ ((k ≡ 3) ⊎ (k ≡ 4)))
  pub bending : k ≡ 1 → BrokenWhenGrown Bending cs b f
  pub shear : k ≡ 2 → BrokenWhenGrown Shear cs b f
  pub tension : k ≡ 3 → BrokenWhenGrown Tension cs b f
  pub compression : k ≡ 4 → BrokenWhenGrown Compression cs b f

pub record ShopVerdict (cs : List Readings) (b : DesignBasis) (f : Forces) (v : Verdict) : Type 0 where
  pub by_the_rule : v ≡ shop_meaning.rule cs b f
  pub met : v ≡ all_met → AllMet cs b f
  pub refused : (k : ℕ) → v ≡ refused_by k → RefusedBy k cs b f
