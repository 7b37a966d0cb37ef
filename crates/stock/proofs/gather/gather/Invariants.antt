use Rattle.std.proofs.Common.{◌≡◌, take}
use Rattle.ledger.specs.Table.{question_of}
use Rattle.stock.specs.Rows.{bundle_in, as_question}
use Rattle.stock.proofs.gather.gather.Given as goal

abbrev pub invariant-loop-row : goal.invariant-loop-row
invariant-loop-row l = as_question l.bundle l.member ≡ question_of (bundle_in l.member.number (take l.row-index l.rows)) l.member
