use Rattle.std.proofs.Common.{◌≡◌, ◌≤◌, ◌++◌, length, drop, vec_items, vec_len, vec_capacity}
use Rattle.ledger.specs.Runs.{run, answers}
use Rattle.frame_book.specs.Books.{ledger_of, Past}
use Rattle.season.proofs.play.Given as goal

abbrev pub invariant-loop-call : goal.invariant-loop-call
invariant-loop-call g l =
    let rule = (g.C.DesignCode.meaning l.code).rule in
    (vec_items l.answers ++ answers rule (ledger_of l.book) (drop l.call-index l.calls) ≡ answers rule (ledger_of l.initial.book) l.calls) × (run rule (ledger_of l.book) (drop l.call-index l.calls) ≡ run rule (ledger_of l.initial.book) l.calls) × (vec_len l.answers ≡ l.call-index) × (length l.calls ≤ vec_capacity l.answers) × Past l.initial.book l.book
