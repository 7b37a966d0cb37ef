-- Number and place of every fault of a line. Assumes nothing.
use Rattle.std.specs.Prelude.{ℕ}
use Rattle.ledger.specs.Faults.{book_number, book_place}
use Rattle.line_format.specs.declared.fault.LineFault.{LineFault}
use Rattle.line_format.specs.declared.fault.LineFault.TheVariants.{TooLong, UnknownVerb, FieldCount, BadField, Book}

abbrev pub line_number : LineFault → ℕ
line_number TooLong = 1
line_number UnknownVerb = 2
line_number (FieldCount found) = 3
line_number (BadField place) = 4
line_number (Book fault) = book_number fault

abbrev pub line_place : LineFault → ℕ
line_place TooLong = 0
line_place UnknownVerb = 0
line_place (FieldCount found) = found
line_place (BadField place) = place
line_place (Book fault) = book_place fault
