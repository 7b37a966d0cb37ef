-- What acceptance and refusal of one call say, for every sound code. Assumes nothing.
use Rattle.std.proofs.Common.{◌≡◌, ℕ, suc, ◌≤◌, Bool, true, false, ◌⊎◌, List, [], ◌∷◌, ◌++◌, map, length, Some, None, Ok, Err, Option, Result, is_err, sym, refl, ap, ◌∙◌, subst, inl, inr, arith}
use Rattle.std.proofs.lemmas.Bool.{cond-true, cond-false}
use Rattle.quantities.specs.declared.fault.MeasureFault.{MeasureFault}
use Rattle.design_code.specs.Meaning.{Rule, Meaning, Sound, Bundled}
use Rattle.design_code.specs.Verdicts.{Verdict, all_met, refused_by as against_by}
use Rattle.keyed_table.specs.Rows.{without}
use Rattle.keyed_table.proofs.Lookups.{by_test}
use Rattle.ledger.specs.Ledger.{Ledger, culm_key, member_at, Piece, part_of, bundle}
use Rattle.ledger.specs.Orders.{Order}
use Rattle.ledger.specs.Orders.Order.{define_grade, define_class, add_culm, scrap_culm, open_ticket, check_out, check_in, hold, free, judge, set_member, drop_ticket, strike, load, judge_without, look_culm, look_member, look_counts}
use Rattle.ledger.specs.Runs.{MeetsEveryClause, StandingMeet, asked_of, asked_by, Broken}
use Rattle.ledger.specs.Table.{Check, Question, question_of, question_for, reloaded_at, verdict_on, refuses, clause_of, strength, checks_of, done_by, first_of, afterwards, answered, order_refusal, refusal_of, next_of}
use Rattle.ledger.specs.declared.answer.Answer.{Answer}
use Rattle.ledger.specs.declared.fault.BookFault.{BookFault}
use Rattle.ledger.specs.declared.fault.BookFault.TheVariants.{Measure, AlreadyDefined, NotDefined, CulmKnown, CulmUnknown, CulmNotOnRack, NoCulmRow, MemberKnown, NotStanding, NoMemberRow, NoTicket, OtherState, BundleFull, OtherGrade, NotOfBundle, NoCulm, Clause}
use Rattle.ledger.specs.declared.member.Member.{Member}
use Rattle.ledger.proofs.Kept.{Pass, met, Accepted, OwedAt, Owed, Good}
use Rattle.ledger.proofs.Numbered.{no_none, no_truth, inside, length_without}

-- the table, whatever is in it
pub no_fault : {P T : Type 0} {x : T} {f : BookFault} → Err f ≡ Ok x → P
no_fault e = let z : ◌≡◌ {A = ℕ} 0 1 = cc in let n : ⊥ = omega arith in absurd n

pub accepted : (cs : List Check) → first_of cs ≡ Ok tt → Pass cs
accepted [] e = tt
accepted (c ∷ cs) e =
    by_test c.when
    (λ t. no_fault (sym (cond-true c.when (Err c.fault) (first_of cs) t) ∙ e))
    (λ t. (t, accepted cs (sym (cond-false c.when (Err c.fault) (first_of cs) t) ∙ e)))

pub refused_same : {X : Type 0} (cs : List Check) (was new : X) (f : BookFault) → first_of cs ≡ Err f → afterwards cs was new ≡ was
refused_same [] was new f e = no_fault (sym e)
refused_same (c ∷ cs) was new f e =
    by_test c.when
    (λ t. cond-true c.when was (afterwards cs was new) t)
    (λ t. cond-false c.when was (afterwards cs was new) t ∙ refused_same cs was new f (sym (cond-false c.when (Err c.fault) (first_of cs) t) ∙ e))

-- one of the checks applies, and has the fault f
abbrev Calls : BookFault → List Check → Type 0
Calls f [] = ⊥
Calls f (c ∷ cs) = ((c.when ≡ true) × (c.fault ≡ f)) ⊎ Calls f cs

refused_by : (f : BookFault) (cs : List Check) → first_of cs ≡ Err f → Calls f cs
refused_by f [] e = no_fault (sym e)
refused_by f (c ∷ cs) e =
    by_test c.when
    (λ t. let q : Err c.fault ≡ Err f = sym (cond-true c.when (Err c.fault) (first_of cs) t) ∙ e in inl (t, (cc)))
    (λ t. inr (refused_by f cs (sym (cond-false c.when (Err c.fault) (first_of cs) t) ∙ e)))

-- an answer is a refusal where the call is refused, with the same fault
pub as_refused : (a : Answer) (r : Result (Unit {0}) BookFault) (b : Bool) → is_err (answered a r) ≡ b → is_err r ≡ b
as_refused a (Ok _) b e = e
as_refused a (Err f) b e = e

pub fault_told : (a : Answer) (r : Result (Unit {0}) BookFault) (f : BookFault) → answered a r ≡ Err f → r ≡ Err f
fault_told a (Ok tt) f e = no_fault (sym e)
fault_told a (Err g) f e = cc

err_of : (r : Result (Unit {0}) BookFault) → is_err r ≡ true → (f : BookFault) × (r ≡ Err f)
err_of (Ok tt) e = no_truth (sym e)
err_of (Err f) e = (f, refl)

ok_of : (r : Result (Unit {0}) BookFault) → is_err r ≡ false → r ≡ Ok tt
ok_of (Ok tt) e = refl
ok_of (Err f) e = no_truth e

-- a refused call changes nothing
pub refused_changes_nothing : (rule : Rule) (l : Ledger) (o : Result Order MeasureFault) → is_err (refusal_of rule l o) ≡ true → next_of rule l o ≡ l
refused_changes_nothing rule l (Err f) e = refl
refused_changes_nothing rule l (Ok o) e =
    let f = err_of (order_refusal rule l o) e in
    refused_same (checks_of rule l o) l (done_by l o) f.0 f.1

-- an accepted call passes every check
pub accepted_passes : (rule : Rule) (l : Ledger) (o : Order) → is_err (order_refusal rule l o) ≡ false → Pass (checks_of rule l o)
accepted_passes rule l o e = accepted (checks_of rule l o) (ok_of (order_refusal rule l o) e)

passed : {X : Type 0} (was new : X) (cs : List Check) → Pass cs → afterwards cs was new ≡ new
passed was new [] p = refl
passed was new (c ∷ cs) p = cond-false c.when was (afterwards cs was new) p.0 ∙ passed was new cs p.1

pub accepted_does : (rule : Rule) (l : Ledger) (o : Order) → is_err (order_refusal rule l o) ≡ false → next_of rule l (Ok o) ≡ done_by l o
accepted_does rule l o e = passed l (done_by l o) (checks_of rule l o) (accepted_passes rule l o e)

-- a clause's fault
abbrev clause_fault : BookFault → Bool
clause_fault (Clause k) = true
clause_fault (Measure f) = false
clause_fault AlreadyDefined = false
clause_fault NotDefined = false
clause_fault CulmKnown = false
clause_fault CulmUnknown = false
clause_fault CulmNotOnRack = false
clause_fault NoCulmRow = false
clause_fault MemberKnown = false
clause_fault NotStanding = false
clause_fault NoMemberRow = false
clause_fault NoTicket = false
clause_fault OtherState = false
clause_fault BundleFull = false
clause_fault OtherGrade = false
clause_fault NotOfBundle = false
clause_fault NoCulm = false

against : (v : Verdict) (k : ℕ) → refuses v ≡ true → Clause (clause_of v) ≡ Clause k → v ≡ against_by k
against (Ok _) k r e = no_truth (sym r)
against (Err j) k r e = let q : j.clause ≡ k = cc in ap against_by q

-- a question about one to sixteen culms
length_readings : (b : List Piece) → length (map (λ x. x.readings) b) ≡ length b
length_readings [] = refl
length_readings (c ∷ cs) = ap suc (length_readings cs)

bundled_of : (b : List Piece) (r : Member) (q : Question) → question_of b r ≡ Some q → length b ≤ 16 → Bundled q.culms
bundled_of [] r q e n = no_none (sym e)
bundled_of (c ∷ cs) r q e n =
    let culms : map (λ x. x.readings) (c ∷ cs) ≡ q.culms = ap (λ z. z.culms) (inside e) in
    subst Bundled culms
    (record { some = omega (arith, length_readings (c ∷ cs)); few = omega (arith, length_readings (c ∷ cs)) })

bundled_for : (b : List Piece) (o : Option Member) (q : Question) → question_for b o ≡ Some q → length b ≤ 16 → Bundled q.culms
bundled_for b None q e n = no_none (sym e)
bundled_for b (Some r) q e n = bundled_of b r q e n

-- every question is about one to sixteen culms
pub asked_bundled : (rule : Rule) (l : Ledger) → Good rule l → (o : Order) (q : Question) → asked_of l o ≡ Some q → Bundled q.culms
asked_bundled rule l h (judge m) q e = bundled_for (bundle m l.culms) (member_at l m) q e (h.few m)
asked_bundled rule l h (load m d f) q e = bundled_for (bundle m l.culms) (reloaded_at d f (member_at l m)) q e (h.few m)
asked_bundled rule l h (judge_without m n) q e =
    bundled_for (bundle m (without culm_key n l.culms)) (member_at l m) q e
    (omega (arith, length_without culm_key (λ c. part_of m c c.place) n l.culms, h.few m))
asked_bundled rule l h (define_grade g x) q e = no_none (sym e)
asked_bundled rule l h (define_class s x) q e = no_none (sym e)
asked_bundled rule l h (add_culm n g x) q e = no_none (sym e)
asked_bundled rule l h (scrap_culm n) q e = no_none (sym e)
asked_bundled rule l h (open_ticket m x s d f) q e = no_none (sym e)
asked_bundled rule l h (check_out m) q e = no_none (sym e)
asked_bundled rule l h (check_in m) q e = no_none (sym e)
asked_bundled rule l h (hold m n) q e = no_none (sym e)
asked_bundled rule l h (free m n) q e = no_none (sym e)
asked_bundled rule l h (set_member m) q e = no_none (sym e)
asked_bundled rule l h (drop_ticket m) q e = no_none (sym e)
asked_bundled rule l h (strike m) q e = no_none (sym e)
asked_bundled rule l h (look_culm n) q e = no_none (sym e)
asked_bundled rule l h (look_member m) q e = no_none (sym e)
asked_bundled rule l h look_counts q e = no_none (sym e)

-- an accepted question is met by the rule
asked_met : (rule : Rule) (l : Ledger) (o : Order) (q : Question) → Pass (checks_of rule l o) → asked_of l o ≡ Some q → verdict_on rule (asked_of l o) ≡ all_met
asked_met rule l (judge m) q p e = met _ p.1.1.1.0
asked_met rule l (load m d f) q p e = met _ p.1.0
asked_met rule l (judge_without m n) q p e = met _ p.1.1.1.1.0
asked_met rule l (define_grade g x) q p e = no_none (sym e)
asked_met rule l (define_class s x) q p e = no_none (sym e)
asked_met rule l (add_culm n g x) q p e = no_none (sym e)
asked_met rule l (scrap_culm n) q p e = no_none (sym e)
asked_met rule l (open_ticket m x s d f) q p e = no_none (sym e)
asked_met rule l (check_out m) q p e = no_none (sym e)
asked_met rule l (check_in m) q p e = no_none (sym e)
asked_met rule l (hold m n) q p e = no_none (sym e)
asked_met rule l (free m n) q p e = no_none (sym e)
asked_met rule l (set_member m) q p e = no_none (sym e)
asked_met rule l (drop_ticket m) q p e = no_none (sym e)
asked_met rule l (strike m) q p e = no_none (sym e)
asked_met rule l (look_culm n) q p e = no_none (sym e)
asked_met rule l (look_member m) q p e = no_none (sym e)
asked_met rule l look_counts q p e = no_none (sym e)

-- no fault but a clause's is a clause's
other_fault : {P : Type 0} (f : BookFault) (k : ℕ) → clause_fault f ≡ false → f ≡ Clause k → P
other_fault f k n e = no_truth (sym (ap clause_fault e) ∙ n)

-- the code's refusal of a question
refusing : (rule : Rule) (o : Option Question) (k : ℕ) → refuses (verdict_on rule o) ≡ true → Clause (clause_of (verdict_on rule o)) ≡ Clause k
    → (q : Question) × (o ≡ Some q) × (verdict_on rule (Some q) ≡ against_by k)
refusing rule None k r e = no_truth (sym r)
refusing rule (Some q) k r e = (q, refl, against (verdict_on rule (Some q)) k r e)

-- no check of these speaks of a clause
abbrev Plain : List Check → Type 0
Plain [] = Unit {0}
Plain (c ∷ cs) = (clause_fault c.fault ≡ false) × Plain cs

plain_silent : {P : Type 0} (k : ℕ) (cs : List Check) → Plain cs → Calls (Clause k) cs → P
plain_silent k [] p e = absurd e
plain_silent k (c ∷ cs) p (inl e) = other_fault c.fault k p.0 e.1
plain_silent k (c ∷ cs) p (inr e) = plain_silent k cs p.1 e

last_speaks : (k : ℕ) (cs : List Check) (s : Check) → Plain cs → Calls (Clause k) (cs ++ (s ∷ [])) → (s.when ≡ true) × (s.fault ≡ Clause k)
last_speaks k [] s p (inl e) = e
last_speaks k [] s p (inr e) = absurd e
last_speaks k (c ∷ cs) s p (inl e) = other_fault c.fault k p.0 e.1
last_speaks k (c ∷ cs) s p (inr e) = last_speaks k cs s p.1 e

-- a call that is refused by a clause has asked the code, and the code has answered that clause
abbrev AskedAgainst : Rule → Ledger → Order → ℕ → Type 0
AskedAgainst rule l o k = (q : Question) × (asked_of l o ≡ Some q) × (verdict_on rule (Some q) ≡ against_by k)

module _ (rule : Rule) (l : Ledger) (k : ℕ) where
  asked_last : (o : Order) (cs : List Check) → Plain cs → Calls (Clause k) (cs ++ (strength rule (asked_of l o) ∷ [])) → AskedAgainst rule l o k
  asked_last o cs p e =
      let s = last_speaks k cs (strength rule (asked_of l o)) p e in
      refusing rule (asked_of l o) k s.0 s.1

  asked_against : (o : Order) → Calls (Clause k) (checks_of rule l o) → AskedAgainst rule l o k
  asked_against (judge m) e = asked_last (judge m) (_ ∷ _ ∷ _ ∷ []) (refl, (refl, (refl, tt))) e
  asked_against (load m d f) e = asked_last (load m d f) (_ ∷ []) (refl, tt) e
  asked_against (judge_without m n) e = asked_last (judge_without m n) (_ ∷ _ ∷ _ ∷ _ ∷ []) (refl, (refl, (refl, (refl, tt)))) e
  asked_against (define_grade g x) e = plain_silent k (checks_of rule l (define_grade g x)) (refl, tt) e
  asked_against (define_class s x) e = plain_silent k (checks_of rule l (define_class s x)) (refl, tt) e
  asked_against (add_culm n g x) e = plain_silent k (checks_of rule l (add_culm n g x)) (refl, (refl, (refl, tt))) e
  asked_against (scrap_culm n) e = plain_silent k (checks_of rule l (scrap_culm n)) (refl, (refl, tt)) e
  asked_against (open_ticket m x s d f) e = plain_silent k (checks_of rule l (open_ticket m x s d f)) (refl, (refl, (refl, (refl, tt)))) e
  asked_against (check_out m) e = plain_silent k (checks_of rule l (check_out m)) (refl, tt) e
  asked_against (check_in m) e = plain_silent k (checks_of rule l (check_in m)) (refl, tt) e
  asked_against (hold m n) e = plain_silent k (checks_of rule l (hold m n)) (refl, (refl, (refl, (refl, (refl, (refl, tt)))))) e
  asked_against (free m n) e = plain_silent k (checks_of rule l (free m n)) (refl, (refl, (refl, (refl, tt)))) e
  asked_against (set_member m) e = plain_silent k (checks_of rule l (set_member m)) (refl, (refl, tt)) e
  asked_against (drop_ticket m) e = plain_silent k (checks_of rule l (drop_ticket m)) (refl, tt) e
  asked_against (strike m) e = plain_silent k (checks_of rule l (strike m)) (refl, tt) e
  asked_against (look_culm n) e = plain_silent k (checks_of rule l (look_culm n)) (refl, tt) e
  asked_against (look_member m) e = plain_silent k (checks_of rule l (look_member m)) (refl, tt) e
  asked_against look_counts e = absurd e

-- for every sound code
module _ (code : Meaning) (sound : Sound code) (l : Ledger) (h : Good code.rule l) where
  meets : (q : Question) → Bundled q.culms → verdict_on code.rule (Some q) ≡ all_met → MeetsEveryClause code q
  meets q b v = sound.met q.culms q.basis q.forces b v

  pub accepted_meets : (o : Result Order MeasureFault) (q : Question) → is_err (refusal_of code.rule l o) ≡ false → asked_by l o ≡ Some q → MeetsEveryClause code q
  accepted_meets (Err f) q n e = no_none (sym e)
  accepted_meets (Ok o) q n e =
      meets q (asked_bundled code.rule l h o q e)
      (ap (verdict_on code.rule) (sym e) ∙ asked_met code.rule l o q (accepted_passes code.rule l o n) e)

  pub refused_breaks : (o : Result Order MeasureFault) (k : ℕ) → refusal_of code.rule l o ≡ Err (Clause k)
      → (q : Question) × (asked_by l o ≡ Some q) × Broken code q k
  refused_breaks (Err f) k e = other_fault (Measure f) k refl (cc)
  refused_breaks (Ok o) k e =
      let a =
      asked_against code.rule l k o
      (refused_by (Clause k) (checks_of code.rule l o) e) in
      let s = sound.refused a.0.culms a.0.basis a.0.forces (asked_bundled code.rule l h o a.0 a.1) k a.2 in
      (a.0, a.1, record { has = s.0; breaks = s.1 })

  pub standing_meet : StandingMeet code l
  standing_meet m r e s =
      let owed : OwedAt r.stage (Accepted code.rule (bundle m l.culms) r) = subst (Owed code.rule (bundle m l.culms)) e (h.owed m) in
      let a : Accepted code.rule (bundle m l.culms) r = subst (λ z. OwedAt z (Accepted code.rule (bundle m l.culms) r)) s owed in
      (a.question, a.about, meets a.question (bundled_of (bundle m l.culms) r a.question a.about (h.few m)) a.is_met)
