-- A code's answer on a bundle: met, or refused by the number of a clause. Assumes nothing.
use Rattle.std.specs.Prelude.{ℕ, Ok, Err, Result}
use Rattle.design_code.specs.declared.verdict.Refused.{Refused}

abbrev pub Verdict : Type 0
Verdict = Result (Unit {0}) Refused

abbrev pub all_met : Verdict
all_met = Ok tt

abbrev pub refused_by : ℕ → Verdict
refused_by k = Err (record { clause = k })
