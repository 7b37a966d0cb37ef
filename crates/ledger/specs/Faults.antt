-- Number and place of every fault of a book. Assumes nothing.
use Rattle.std.specs.Prelude.{ℕ}
use Rattle.quantities.specs.Faults.{fault_number, fault_place}
use Rattle.ledger.specs.declared.fault.BookFault.{BookFault}
use Rattle.ledger.specs.declared.fault.BookFault.TheVariants.{Measure, AlreadyDefined, NotDefined, CulmKnown, CulmUnknown, CulmNotOnRack, NoCulmRow, MemberKnown, NotStanding, NoMemberRow, NoTicket, OtherState, BundleFull, OtherGrade, NotOfBundle, NoCulm, Clause}

abbrev pub book_number : BookFault → ℕ
book_number (Measure f) = fault_number f
book_number AlreadyDefined = 8
book_number NotDefined = 9
book_number CulmKnown = 10
book_number CulmUnknown = 11
book_number CulmNotOnRack = 12
book_number NoCulmRow = 13
book_number MemberKnown = 14
book_number NotStanding = 15
book_number NoMemberRow = 16
book_number NoTicket = 17
book_number OtherState = 18
book_number BundleFull = 19
book_number OtherGrade = 20
book_number NotOfBundle = 21
book_number NoCulm = 22
book_number (Clause k) = 23

-- the field of a measure, the number of a clause, else 0
abbrev pub book_place : BookFault → ℕ
book_place (Measure f) = fault_place f
book_place AlreadyDefined = 0
book_place NotDefined = 0
book_place CulmKnown = 0
book_place CulmUnknown = 0
book_place CulmNotOnRack = 0
book_place NoCulmRow = 0
book_place MemberKnown = 0
book_place NotStanding = 0
book_place NoMemberRow = 0
book_place NoTicket = 0
book_place OtherState = 0
book_place BundleFull = 0
book_place OtherGrade = 0
book_place NotOfBundle = 0
book_place NoCulm = 0
book_place (Clause k) = k
