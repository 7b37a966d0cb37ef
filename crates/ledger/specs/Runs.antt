-- Whole runs of calls on a ledger that began empty, and what is true of every one. Assumes nothing.
use Rattle.std.specs.Prelude.{◌≡◌, ℕ, suc, ◌+◌, ◌<◌, true, false, cond, List, [], ◌∷◌, ◌++◌, length, take, replicate, Some, None, Ok, Err, Option, Result, is_err, ◌==◌, slice_index_or}
use Rattle.exact.specs.Pi.{lower_pi, upper_pi}
use Rattle.quantities.specs.declared.fault.MeasureFault.{MeasureFault}
use Rattle.quantities.specs.declared.readings.Readings.{Readings}
use Rattle.design_code.specs.Loads.{recorded, grown}
use Rattle.design_code.specs.Meaning.{Rule, Meaning}
use Rattle.ledger.specs.Ledger.{Ledger, culm_key, culm_at, member_at, bundle, counts}
use Rattle.ledger.specs.Orders.{Order, measured}
use Rattle.ledger.specs.Orders.Order.{add_culm, scrap_culm, judge, load, judge_without}
use Rattle.ledger.specs.Table.{Question, question_of, question_for, reloaded_at, refusal, told, next}
use Rattle.keyed_table.specs.Rows.{without}
use Rattle.ledger.specs.declared.answer.Answer.{Answer}
use Rattle.ledger.specs.declared.answer.Answer.TheVariants.{Done}
use Rattle.ledger.specs.declared.call.Call.{Call}
use Rattle.ledger.specs.declared.call.Call.TheVariants.{LookCounts}
use Rattle.ledger.specs.declared.culm.Culm.{Culm}
use Rattle.ledger.specs.declared.fault.BookFault.{BookFault}
use Rattle.ledger.specs.declared.fault.BookFault.TheVariants.{Clause}
use Rattle.ledger.specs.declared.member.Member.{Member}
use Rattle.ledger.specs.declared.member.Stage.TheVariants.{Standing}

abbrev pub empty_ledger : (culm_rows member_rows : ℕ) → Ledger
empty_ledger cs ms = record { grades = replicate 8 None; classes = replicate 3 None; culms = []; members = []; culm_rows = cs; member_rows = ms }

-- where a list of calls leads, and what it is answered
abbrev pub run : Rule → Ledger → List Call → Ledger
run rule l [] = l
run rule l (c ∷ cs) = run rule (next rule l c) cs

abbrev pub answers : Rule → Ledger → List Call → List (Result Answer BookFault)
answers rule l [] = []
answers rule l (c ∷ cs) = told rule l c ∷ answers rule (next rule l c) cs

-- every clause of the code is met exactly
abbrev pub MeetsEveryClause : Meaning → Question → Type 0
MeetsEveryClause code q = (k : ℕ) → code.has k → code.relation k q.culms q.basis (recorded q.forces) lower_pi

-- every standing member has culms, and with these and its recorded forces it meets every clause
abbrev pub StandingMeet : Meaning → Ledger → Type 0
StandingMeet code l =
    (m : ℕ) (r : Member) → member_at l m ≡ Some r → r.stage ≡ Standing
    → (q : Question) × (question_of (bundle m l.culms) r ≡ Some q) × MeetsEveryClause code q

-- what a call asks the code about: the ticket's bundle; the member's, with the new duration and forces; the member's less that culm
abbrev pub asked_of : Ledger → Order → Option Question
asked_of l (judge m) = question_for (bundle m l.culms) (member_at l m)
asked_of l (load m d f) = question_for (bundle m l.culms) (reloaded_at d f (member_at l m))
asked_of l (judge_without m n) = question_for (bundle m (without culm_key n l.culms)) (member_at l m)
asked_of l _ = None

abbrev pub asked_by : Ledger → Result Order MeasureFault → Option Question
asked_by l (Err f) = None
asked_by l (Ok o) = asked_of l o

abbrev pub asked : Ledger → Call → Option Question
asked l c = asked_by l (measured c)

-- the bundle asked about breaks the clause k, which the code has, when its forces grow a little
pub record Broken (code : Meaning) (q : Question) (k : ℕ) : Type 0 where
  pub has : code.has k
  pub breaks : code.relation k q.culms q.basis (grown q.forces) upper_pi → ⊥

-- the ledger on which the call number i was made, and that call
abbrev pub ledger_at : Rule → Ledger → List Call → ℕ → Ledger
ledger_at rule l cs i = run rule l (take i cs)

abbrev pub call_at : List Call → ℕ → Call
call_at cs i = slice_index_or cs i LookCounts

-- what an addition adds
pub record Addition : Type 0 where
  pub number : ℕ
  pub grade : ℕ
  pub readings : Readings

abbrev pub addition_of : Order → Option Addition
addition_of (add_culm n g x) = Some (record { number = n; grade = g; readings = x })
addition_of _ = None

abbrev pub scraps : Order → ℕ
scraps (scrap_culm n) = 1
scraps _ = 0

-- the order of a call that is accepted
abbrev pub order_in : Result Order MeasureFault → Option Order
order_in (Err f) = None
order_in (Ok o) = Some o

abbrev pub accepted_order : Rule → Ledger → Call → Option Order
accepted_order rule l c = cond (is_err (refusal rule l c)) None (order_in (measured c))

abbrev pub one_if : Option Addition → ℕ
one_if None = 0
one_if (Some a) = 1

abbrev pub added_by : Option Order → ℕ
added_by None = 0
added_by (Some o) = one_if (addition_of o)

abbrev pub scrapped_by : Option Order → ℕ
scrapped_by None = 0
scrapped_by (Some o) = scraps o

-- accepted additions and scrappings of a run
abbrev pub additions : Rule → Ledger → List Call → ℕ
additions rule l [] = 0
additions rule l (c ∷ cs) = added_by (accepted_order rule l c) + additions rule (next rule l c) cs

abbrev pub scrappings : Rule → Ledger → List Call → ℕ
scrappings rule l [] = 0
scrappings rule l (c ∷ cs) = scrapped_by (accepted_order rule l c) + scrappings rule (next rule l c) cs

-- the addition of the culm n, where it is one, else what was
abbrev pub of_number : ℕ → Option Addition → Option Addition → Option Addition
of_number n None was = was
of_number n (Some a) was = cond (a.number == n) (Some a) was

abbrev pub addition_in : ℕ → Option Order → Option Addition → Option Addition
addition_in n None was = was
addition_in n (Some o) was = of_number n (addition_of o) was

-- the latest accepted addition of the culm n in a run, where there is one
abbrev pub latest_from : Rule → Ledger → List Call → ℕ → Option Addition → Option Addition
latest_from rule l [] n was = was
latest_from rule l (c ∷ cs) n was = latest_from rule (next rule l c) cs n (addition_in n (accepted_order rule l c) was)

abbrev pub latest : Rule → Ledger → List Call → ℕ → Option Addition
latest rule l cs n = latest_from rule l cs n None

-- the ledger to which the earlier calls `past` led from an empty one of so many rows
pub record Began (rule : Rule) (past : List Call) (l : Ledger) : Type 0 where
  pub culm_rows : ℕ
  pub member_rows : ℕ
  pub led : l ≡ run rule (empty_ledger culm_rows member_rows) past

-- what is true of every run: calls on a ledger to which earlier calls led, the answers given, and where they led
pub record Whole (code : Meaning) (before after : Ledger) (calls : List Call) (given : List (Result Answer BookFault)) : Type 0 where
  pub every_answer_is_the_tables : given ≡ answers code.rule before calls
  pub the_ledger_is_the_runs : after ≡ run code.rule before calls
  pub refused_calls_change_nothing : (i : ℕ) → i < length calls → is_err (slice_index_or given i (Ok Done)) ≡ true
      → ledger_at code.rule before calls (suc i) ≡ ledger_at code.rule before calls i
  pub standing_members_meet_every_clause : (past : List Call) → Began code.rule past before → StandingMeet code after
  pub accepted_questions_meet_every_clause : (past : List Call) → Began code.rule past before → (i : ℕ) (q : Question) → i < length calls
      → is_err (slice_index_or given i (Ok Done)) ≡ false → asked (ledger_at code.rule before calls i) (call_at calls i) ≡ Some q → MeetsEveryClause code q
  pub strength_refusals_name_a_broken_clause : (past : List Call) → Began code.rule past before → (i k : ℕ) → i < length calls
      → slice_index_or given i (Ok Done) ≡ Err (Clause k)
      → (q : Question) × (asked (ledger_at code.rule before calls i) (call_at calls i) ≡ Some q) × Broken code q k
  pub culms_add_up_to_added_less_scrapped : (past : List Call) (b : Began code.rule past before)
      → (counts after).rack + (counts after).held + (counts after).standing
      + scrappings code.rule (empty_ledger b.culm_rows b.member_rows) (past ++ calls)
      ≡ additions code.rule (empty_ledger b.culm_rows b.member_rows) (past ++ calls)
  pub grades_and_readings_are_those_of_the_latest_addition : (past : List Call) (b : Began code.rule past before) (n : ℕ) (c : Culm)
      → culm_at after n ≡ Some c
      → latest code.rule (empty_ledger b.culm_rows b.member_rows) (past ++ calls) n
      ≡ Some (record { number = n; grade = c.grade; readings = c.readings })
