-- Whole runs: what is true of every call is true of every run. Assumes nothing.
use Rattle.std.proofs.Common.{◌≡◌, ℕ, zero, suc, ◌+◌, ◌<◌, List, [], ◌∷◌, ◌++◌, length, get_or, take, None, Ok, Err, Option, Result, is_err, sym, refl, ap, ◌∙◌, subst, arith}
use Rattle.quantities.specs.declared.fault.MeasureFault.{MeasureFault}
use Rattle.design_code.specs.Meaning.{Rule, Meaning, Sound}
use Rattle.ledger.specs.Ledger.{Ledger}
use Rattle.ledger.specs.Orders.{Order, measured}
use Rattle.ledger.specs.Runs.{empty_ledger, run, answers, ledger_at, call_at, Addition, additions, scrappings, latest_from, Began, Whole}
use Rattle.ledger.specs.Table.{checks_of, done_by, told, next, next_of}
use Rattle.ledger.specs.declared.answer.Answer.{Answer}
use Rattle.ledger.specs.declared.answer.Answer.TheVariants.{Done}
use Rattle.ledger.specs.declared.call.Call.{Call}
use Rattle.ledger.specs.declared.fault.BookFault.{BookFault}
use Rattle.ledger.proofs.Accounts.{places_add_up, step_count, step_traced, Traced}
use Rattle.ledger.proofs.Kept.{Good, keeps, done_kept}
use Rattle.ledger.proofs.Numbered.{no_none}
use Rattle.ledger.proofs.Strength.{as_refused, fault_told, refused_changes_nothing, accepted_meets, refused_breaks, standing_meet}

-- every ledger that began empty is good
step_kept : (rule : Rule) (l : Ledger) → Good rule l → (o : Result Order MeasureFault) → Good rule (next_of rule l o)
step_kept rule l h (Err f) = h
step_kept rule l h (Ok o) = keeps (Good rule) (checks_of rule l o) l (done_by l o) h (done_kept rule l h o)

pub run_kept : (rule : Rule) (l : Ledger) (cs : List Call) → Good rule l → Good rule (run rule l cs)
run_kept rule l [] h = h
run_kept rule l (c ∷ cs) h = run_kept rule (next rule l c) cs (step_kept rule l h (measured c))

empty_good : (rule : Rule) (cs ms : ℕ) → Good rule (empty_ledger cs ms)
empty_good rule cs ms = record { apart = tt; few = λ m. omega arith; owed = λ m. tt }

began_good : (rule : Rule) (past : List Call) (l : Ledger) → Began rule past l → Good rule l
began_good rule past l b = subst (Good rule) (sym b.led) (run_kept rule (empty_ledger b.culm_rows b.member_rows) past (empty_good rule b.culm_rows b.member_rows))

-- runs in parts
run_on : (rule : Rule) (l : Ledger) (past cs : List Call) → run rule l (past ++ cs) ≡ run rule (run rule l past) cs
run_on rule l [] cs = refl
run_on rule l (c ∷ past) cs = run_on rule (next rule l c) past cs

-- call by call
answer_at : (rule : Rule) (l : Ledger) (cs : List Call) (i : ℕ) (d : Result Answer BookFault) → i < length cs
    → get_or (answers rule l cs) i d ≡ told rule (ledger_at rule l cs i) (call_at cs i)
answer_at rule l [] i d h = absurd (omega arith)
answer_at rule l (c ∷ cs) zero d h = refl
answer_at rule l (c ∷ cs) (suc i) d h = answer_at rule (next rule l c) cs i d (omega arith)

ledger_after : (rule : Rule) (l : Ledger) (cs : List Call) (i : ℕ) → i < length cs
    → ledger_at rule l cs (suc i) ≡ next rule (ledger_at rule l cs i) (call_at cs i)
ledger_after rule l [] i h = absurd (omega arith)
ledger_after rule l (c ∷ cs) zero h = refl
ledger_after rule l (c ∷ cs) (suc i) h = ledger_after rule (next rule l c) cs i (omega arith)

-- counts and readings over a run
run_count : (rule : Rule) (l : Ledger) (cs : List Call) → Good rule l
    → length (run rule l cs).culms + scrappings rule l cs ≡ length l.culms + additions rule l cs
run_count rule l [] h = refl
run_count rule l (c ∷ cs) h =
    omega (arith, step_count rule l h (measured c), run_count rule (next rule l c) cs (step_kept rule l h (measured c)))

run_traced : (rule : Rule) (l : Ledger) (cs : List Call) (n : ℕ) (was : Option Addition) → Good rule l → Traced n l.culms was
    → Traced n (run rule l cs).culms (latest_from rule l cs n was)
run_traced rule l [] n was h t = t
run_traced rule l (c ∷ cs) n was h t =
    run_traced rule (next rule l c) cs n _ (step_kept rule l h (measured c)) (step_traced rule l h n was t (measured c))

module _ (code : Meaning) (sound : Sound code) (before : Ledger) (calls : List Call) where
  abbrev rule : Rule
  rule = code.rule

  abbrev given : List (Result Answer BookFault)
  given = answers rule before calls

  good_at : (past : List Call) → Began rule past before → (i : ℕ) → Good rule (ledger_at rule before calls i)
  good_at past b i = run_kept rule before (take i calls) (began_good rule past before b)

  pub whole : Whole code before (run rule before calls) calls given
  whole = record {
    every_answer_is_the_tables = refl;
    the_ledger_is_the_runs = refl;
    refused_calls_change_nothing = λ i h e.
        ledger_after rule before calls i h
        ∙ refused_changes_nothing rule (ledger_at rule before calls i) (measured (call_at calls i)) (as_refused _ _ _ (ap is_err (sym (answer_at rule before calls i (Ok Done) h)) ∙ e));
    standing_members_meet_every_clause = λ past b.
        standing_meet code sound (run rule before calls) (run_kept rule before calls (began_good rule past before b));
    accepted_questions_meet_every_clause = λ past b i q h e a.
        accepted_meets code sound (ledger_at rule before calls i) (good_at past b i) (measured (call_at calls i)) q
        (as_refused _ _ _ (ap is_err (sym (answer_at rule before calls i (Ok Done) h)) ∙ e)) a;
    strength_refusals_name_a_broken_clause = λ past b i k h e.
        refused_breaks code sound (ledger_at rule before calls i) (good_at past b i) (measured (call_at calls i)) k
        (fault_told _ _ _ (sym (answer_at rule before calls i (Ok Done) h) ∙ e));
    culms_add_up_to_added_less_scrapped = λ past b.
        let empty = empty_ledger b.culm_rows b.member_rows in
        let on : run rule empty (past ++ calls) ≡ run rule before calls =
        run_on rule empty past calls ∙ ap (λ z. run rule z calls) (sym b.led) in
        omega (
          arith,
          places_add_up (run rule before calls).culms,
          ap (λ z. length z.culms) on,
          run_count rule empty (past ++ calls) (empty_good rule b.culm_rows b.member_rows),
        );
    grades_and_readings_are_those_of_the_latest_addition = λ past b n c e.
        let empty = empty_ledger b.culm_rows b.member_rows in
        let on : run rule empty (past ++ calls) ≡ run rule before calls =
        run_on rule empty past calls ∙ ap (λ z. run rule z calls) (sym b.led) in
        subst (λ z. Traced n z.culms (latest_from rule empty (past ++ calls) n None)) on
        (run_traced rule empty (past ++ calls) n None (empty_good rule b.culm_rows b.member_rows) (λ x f. no_none (sym f))) c e;
  }
