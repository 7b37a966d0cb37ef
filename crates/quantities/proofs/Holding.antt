-- What is held to a decided fact goes on with any proof of it. Assumes nothing.
use Rattle.std.proofs.Common.{◌≡◌, ℕ, ◌*◌, ℤ, nat_abs, Ok, Result, sym, ap, ◌∙◌}
use native.Mathlib.Bridge.{le_prop}
use Rattle.exact.specs.Deciding.{at_most}
use Rattle.quantities.specs.Held.{hold}
use Rattle.quantities.specs.Measures.{within, third_of, axial_force}
use Rattle.quantities.specs.declared.fault.MeasureFault.{MeasureFault}
use Rattle.quantities.specs.declared.forces.AxialForce.{AxialForce}
use Rattle.quantities.specs.declared.readings.Readings.{Readings}
use Rattle.quantities.specs.declared.within.Within.{Within}

pub holds : {P T F : Type 0} → IsProp P → (d : Dec P) (f : F) (k : P → Result T F) (p : P) → hold d f k ≡ k p
holds prop (yes q) f k p = ap k (prop q p)
holds prop (no g) f k p = absurd (g p)

pub within_is : {low high : ℕ} (w : Within low high) (fault : MeasureFault) → Ok w ≡ within low high w.value fault
within_is {low} {high} w fault =
    sym (holds le_prop (at_most low w.value) fault _ w.low ∙ holds le_prop (at_most w.value high) fault _ w.high)

pub third_is : (r : Readings) (fault : MeasureFault) → Ok r ≡ third_of r.diameter r.wall r.straightness fault
third_is r fault = sym (holds le_prop (at_most (3 * r.wall.value) r.diameter.value) fault _ r.third)

pub axial_is : (n : ℤ) (a : AxialForce) (fault : MeasureFault) → a.newtons ≡ n → Ok a ≡ axial_force n fault
axial_is n a fault e =
    sym (rw (← e) (holds le_prop (at_most (nat_abs a.newtons) 200000) fault (λ l. Ok (record { newtons = a.newtons; limit = l })) a.limit))
