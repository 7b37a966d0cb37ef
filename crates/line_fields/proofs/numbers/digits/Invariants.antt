use Rattle.std.proofs.Common.{◌≡◌, ◌^◌, ◌<◌, drop}
use Rattle.line_fields.specs.Numerals.{digits_from}
use Rattle.line_fields.proofs.numbers.digits.Given as goal

abbrev pub invariant-loop-byte : goal.invariant-loop-byte
invariant-loop-byte l =
    (digits_from l.value (drop l.byte-index l.text) ≡ digits_from 0 l.text) × (l.value < 10 ^ l.byte-index)
