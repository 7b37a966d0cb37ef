-- A run of calls on an empty book. Assumes nothing.
use Rattle.std.specs.Prelude.{ℕ, List, Result}
use Rattle.design_code.specs.Meaning.{Meaning}
use Rattle.ledger.specs.Runs.{empty_ledger, run, StandingMeet, Whole}
use Rattle.ledger.specs.declared.answer.Answer.{Answer}
use Rattle.ledger.specs.declared.call.Call.{Call}
use Rattle.ledger.specs.declared.fault.BookFault.{BookFault}

-- on so many culm rows and member rows: what is true of every run, and what stands at the end meets every clause
pub record Day (code : Meaning) (culm_rows member_rows : ℕ) (calls : List Call) (given : List (Result Answer BookFault)) : Type 0 where
  pub whole : Whole code (empty_ledger culm_rows member_rows) (run code.rule (empty_ledger culm_rows member_rows) calls) calls given
  pub stands : StandingMeet code (run code.rule (empty_ledger culm_rows member_rows) calls)
