-- Which measure raw numbers make, or the first fault they have: ranges before stops, stops before the wall's third, and
-- within each the fields from left to right. Assumes nothing.
use Rattle.std.specs.Prelude.{ℕ, ◌+◌, ◌*◌, ℤ, Ok, Result, unsigned_abs}
use Rattle.exact.specs.Deciding.{at_most}
use Rattle.quantities.specs.Classes.{ServiceClass}
use Rattle.quantities.specs.Held.{hold, and_then}
use Rattle.quantities.specs.declared.class.Class.{Class}
use Rattle.quantities.specs.declared.class.Factors.{Factors}
use Rattle.quantities.specs.declared.fault.MeasureFault.{MeasureFault}
use Rattle.quantities.specs.declared.fault.MeasureFault.TheVariants.{OutOfRange, AtStop, WallTooThick}
use Rattle.quantities.specs.declared.forces.AxialForce.{AxialForce}
use Rattle.quantities.specs.declared.forces.Forces.{Forces}
use Rattle.quantities.specs.declared.forces.RawForces.{RawForces}
use Rattle.quantities.specs.declared.grade.Grade.{Grade}
use Rattle.quantities.specs.declared.grade.RawGrade.{RawGrade}
use Rattle.quantities.specs.declared.readings.RawReadings.{RawReadings}
use Rattle.quantities.specs.declared.readings.Readings.{Readings}
use Rattle.quantities.specs.declared.within.Within.{Within}

-- n, where it lies from low to high
abbrev pub within : (low high n : ℕ) → MeasureFault → Result (Within low high) MeasureFault
within low high n fault =
    hold (at_most low n) fault (λ above. hold (at_most n high) fault (λ below. Ok (record { value = n; low = above; high = below })))

abbrev pub grade : ℕ → RawGrade → Result Grade MeasureFault
grade first raw =
    and_then (within 10 2000 raw.bending (OutOfRange first)) (λ b.
    and_then (within 10 2000 raw.compression (OutOfRange (first + 1))) (λ c.
    and_then (within 10 2000 raw.tension (OutOfRange (first + 2))) (λ t.
    and_then (within 10 2000 raw.shear (OutOfRange (first + 3))) (λ s.
    and_then (within 200 2000 raw.modulus (OutOfRange (first + 4))) (λ m.
    Ok (record { bending = b; compression = c; tension = t; shear = s; modulus = m }))))))

abbrev pub factors : ℕ → Factors ℕ → Result (Factors (Within 10 100)) MeasureFault
factors first raw =
    and_then (within 10 100 raw.permanent (OutOfRange first)) (λ p.
    and_then (within 10 100 raw.transient (OutOfRange (first + 1))) (λ t.
    and_then (within 10 100 raw.instantaneous (OutOfRange (first + 2))) (λ i.
    Ok (record { permanent = p; transient = t; instantaneous = i }))))

abbrev pub service_class : ℕ → Class ℕ → Result ServiceClass MeasureFault
service_class first raw =
    and_then (factors first raw.strength) (λ s.
    and_then (factors (first + 3) raw.modulus) (λ m.
    Ok (record { strength = s; modulus = m })))

-- the parts together, where the wall is at most a third of the diameter
abbrev pub third_of : Within 301 1999 → Within 31 299 → Within 10 100 → MeasureFault → Result Readings MeasureFault
third_of d w s fault =
    hold (at_most (3 * w.value) d.value) fault (λ t. Ok (record { diameter = d; wall = w; straightness = s; third = t }))

-- the diameter gauge shows 300 to 2000 and the wall gauge 30 to 300; a reading at either end is at the stop
abbrev pub readings : ℕ → RawReadings → Result Readings MeasureFault
readings first raw =
    and_then (within 300 2000 raw.diameter (OutOfRange first)) (λ _.
    and_then (within 30 300 raw.wall (OutOfRange (first + 1))) (λ _.
    and_then (within 10 100 raw.straightness (OutOfRange (first + 2))) (λ s.
    and_then (within 301 1999 raw.diameter (AtStop first)) (λ d.
    and_then (within 31 299 raw.wall (AtStop (first + 1))) (λ w.
    third_of d w s (WallTooThick (first + 1)))))))

-- a force of at most 200000 newtons either way
abbrev pub axial_force : ℤ → MeasureFault → Result AxialForce MeasureFault
axial_force n fault = hold (at_most (unsigned_abs n) 200000) fault (λ l. Ok (record { newtons = n; limit = l }))

abbrev pub forces : ℕ → RawForces → Result Forces MeasureFault
forces first raw =
    and_then (axial_force raw.axial (OutOfRange first)) (λ a.
    and_then (within 0 200000 raw.shear (OutOfRange (first + 1))) (λ s.
    and_then (within 0 50000 raw.moment (OutOfRange (first + 2))) (λ m.
    Ok (record { axial = a; shear = s; moment = m }))))
