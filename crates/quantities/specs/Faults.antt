-- Number and place of every fault of a measure. Assumes nothing.
use Rattle.std.specs.Prelude.{ℕ}
use Rattle.quantities.specs.declared.fault.MeasureFault.{MeasureFault}
use Rattle.quantities.specs.declared.fault.MeasureFault.TheVariants.{OutOfRange, AtStop, WallTooThick}

abbrev pub fault_number : MeasureFault → ℕ
fault_number (OutOfRange field) = 5
fault_number (AtStop field) = 6
fault_number (WallTooThick field) = 7

abbrev pub fault_place : MeasureFault → ℕ
fault_place (OutOfRange field) = field
fault_place (AtStop field) = field
fault_place (WallTooThick field) = field
