-- What every clause keeps, because it turns only on the ratios of forces to capacities. Assumes nothing.
use Rattle.std.specs.Prelude.{pos, ◌<ℤ◌}
use Rattle.exact.specs.Fraction.{Fraction, AtMost, times, quotient}
use Rattle.exact.specs.Laws.{Positive}
use Rattle.exact.specs.Signed.{size, times_signed}
use Rattle.design_code.specs.Loads.{Load, Proper, SameLoad, GrowsLoad}
use Rattle.clauses.specs.Clauses.{Capacities}

-- every capacity is above 0
pub record PositiveAll (c : Capacities) : Type 0 where
  pub moment : Positive c.moment
  pub shear : Positive c.shear
  pub tension : Positive c.tension
  pub crushing : Positive c.crushing
  pub buckling : Positive c.buckling

-- no capacity of c is above that of d
pub record AtMostAll (c d : Capacities) : Type 0 where
  pub moment : AtMost c.moment d.moment
  pub shear : AtMost c.shear d.shear
  pub tension : AtMost c.tension d.tension
  pub crushing : AtMost c.crushing d.crushing
  pub buckling : AtMost c.buckling d.buckling

abbrev pub times_all : Fraction → Capacities → Capacities
times_all k c = record {
  moment = times k c.moment;
  shear = times k c.shear;
  tension = times k c.tension;
  crushing = times k c.crushing;
  buckling = times k c.buckling;
}

abbrev pub times_load : Fraction → Load → Load
times_load k l = record { axial = times_signed k l.axial; shear = times k l.shear; moment = times k l.moment }

-- x on the capacity r uses no more of it than y on s
abbrev pub UsesLess : (x r y s : Fraction) → Type 0
UsesLess x r y s = AtMost (quotient x r) (quotient y s)

-- each force of m on d uses no more of each capacity than that of l on c, and an axial force of m has the sign of that of l
pub record Lighter (c : Capacities) (l : Load) (d : Capacities) (m : Load) : Type 0 where
  pub moment : UsesLess m.moment d.moment l.moment c.moment
  pub shear : UsesLess m.shear d.shear l.shear c.shear
  pub tension : m.axial.num <ℤ pos 0 → (l.axial.num <ℤ pos 0) × UsesLess (size m.axial) d.tension (size l.axial) c.tension
  pub compression : pos 0 <ℤ m.axial.num
      → (pos 0 <ℤ l.axial.num)
      × UsesLess (size m.axial) d.crushing (size l.axial) c.crushing
      × UsesLess (size m.axial) d.buckling (size l.axial) c.buckling

abbrev pub Clause : Type 1
Clause = Capacities → Load → Type 0

-- two statements that hold together
abbrev pub Both : Type 0 → Type 0 → Type 0
Both P Q = (P → Q) × (Q → P)

abbrev pub TurnsOnRatios : Clause → Type 0
TurnsOnRatios P = (c d : Capacities) (l m : Load) → PositiveAll c → PositiveAll d → Proper l → Proper m → Lighter c l d m → P c l → P d m

pub record ClauseLaws (P : Clause) : Type 0 where
  pub turns_on_ratios : TurnsOnRatios P
  -- what holds of a load holds of every load that it has grown from
  pub holds_before : (c : Capacities) (l m : Load) → PositiveAll c → Proper l → Proper m → GrowsLoad l m → P c m → P c l
  -- so once broken, it stays broken while forces grow with their signs kept
  pub stays_broken : (c : Capacities) (l m : Load) → PositiveAll c → Proper l → Proper m → GrowsLoad l m → (P c l → ⊥) → P c m → ⊥
  -- larger capacities break nothing
  pub eases : (c d : Capacities) (l : Load) → PositiveAll c → PositiveAll d → Proper l → AtMostAll c d → P c l → P d l
  -- one factor on all forces and all capacities changes nothing
  pub scales : (k : Fraction) (c : Capacities) (l : Load) → Positive k → PositiveAll c → Proper l → Both (P (times_all k c) (times_load k l)) (P c l)
  -- equal fractions count alike
  pub counts_alike : (c : Capacities) (l m : Load) → PositiveAll c → Proper l → Proper m → SameLoad l m → P c l → P c m
