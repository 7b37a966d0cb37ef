-- How large factored strengths and moduli are. Assumes nothing.
use Rattle.std.proofs.Common.{ℕ, ◌*◌, ◌≤◌, Bool, true, false, cond, eqb, List, length, mul-le-mul, arith}
use Rattle.quantities.specs.Durations.{factor_for}
use Rattle.quantities.specs.declared.basis.DesignBasis.{DesignBasis}
use Rattle.quantities.specs.declared.readings.Readings.{Readings}
use Rattle.quantities.specs.declared.within.Within.{Within}
use Rattle.capacity.specs.Strengths.{redundancy_of, factored_strength, factored_modulus}

-- from low to high
pub record Lies (low high n : ℕ) : Type 0 where
  pub from : low ≤ n
  pub to : n ≤ high

either : (b : Bool) → Lies 90 110 (cond b 90 110)
either true = record { from = omega arith; to = omega arith }
either false = record { from = omega arith; to = omega arith }

pub redundancy_lies : (count : ℕ) → Lies 90 110 (redundancy_of count)
redundancy_lies count = either (eqb count 1)

pub product_lies : {a b m n x y : ℕ} → Lies a b x → Lies m n y → Lies (a * m) (b * n) (x * y)
product_lies p q = record { from = mul-le-mul p.from q.from; to = mul-le-mul p.to q.to }

pub in_range : {low high : ℕ} (w : Within low high) → Lies low high w.value
in_range w = record { from = w.low; to = w.high }

pub strength_lies : (cs : List Readings) (b : DesignBasis) (f : Within 10 2000) → Lies 9000 22000000 (factored_strength cs b f.value)
strength_lies cs b f =
    product_lies (product_lies (in_range f) (redundancy_lies (length cs))) (in_range (factor_for b.class.strength b.duration))

pub modulus_lies : (b : DesignBasis) → Lies 2000 200000 (factored_modulus b)
modulus_lies b = product_lies (in_range b.grade.modulus) (in_range (factor_for b.class.modulus b.duration))
