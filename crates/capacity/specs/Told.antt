-- The five capacities by name, and what a told pair says of one. Assumes nothing.
use Rattle.std.specs.Prelude.{◌+◌, ◌/◌, ◌≤◌, List}
use Rattle.exact.specs.Fraction.{Fraction, whole, AtMost}
use Rattle.quantities.specs.declared.basis.DesignBasis.{DesignBasis}
use Rattle.quantities.specs.declared.readings.Readings.{Readings}
use Rattle.capacity.specs.Capacities.{moment_capacity, shear_capacity, tension_capacity, crushing_capacity, buckling_capacity}
use Rattle.capacity.specs.declared.told.Capacity.{Capacity}
use Rattle.capacity.specs.declared.told.Capacity.TheVariants.{Moment, Shear, Tension, Crushing, Buckling}
use Rattle.capacity.specs.declared.told.Told.{Told}

abbrev pub capacity_of : Capacity → Fraction → List Readings → DesignBasis → Fraction
capacity_of Moment = moment_capacity
capacity_of Shear = shear_capacity
capacity_of Tension = tension_capacity
capacity_of Crushing = crushing_capacity
capacity_of Buckling = buckling_capacity

-- whole numbers below and above a capacity that lies from low to high, close together
pub record Tells (t : Told) (low high : Fraction) : Type 0 where
  pub lower : AtMost (whole t.lower) low
  pub upper : AtMost high (whole t.upper)
  pub close : t.upper ≤ t.lower + t.lower / 1000 + 2
