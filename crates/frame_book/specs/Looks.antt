-- What a look shows. Assumes nothing.
use Rattle.std.specs.Prelude.{◌≡◌, Some, Ok, Err, Option, Result}
use Rattle.ledger.specs.declared.fault.BookFault.{BookFault}

-- it shows what there is where nothing refuses, and otherwise the fault
abbrev pub shows : {X : Type 0} → Option X → Result (Unit {0}) BookFault → Result X BookFault → Type 0
shows there refused (Ok x) = (refused ≡ Ok tt) × (there ≡ Some x)
shows there refused (Err f) = refused ≡ Err f
