-- The table of refusals 8 to 23, and what an accepted call writes and answers. Assumes nothing.
use Rattle.std.specs.Prelude.{ℕ, ◌-◌, Bool, true, false, cond, not, List, [], ◌∷◌, map, length, Some, None, Ok, Err, count_by, Option, Result, ◌==◌, nat_lt, slice_set}
use Rattle.quantities.specs.declared.basis.DesignBasis.{DesignBasis}
use Rattle.quantities.specs.Classes.{ServiceClass}
use Rattle.quantities.specs.declared.duration.Duration.{Duration}
use Rattle.quantities.specs.declared.fault.MeasureFault.{MeasureFault}
use Rattle.quantities.specs.declared.forces.Forces.{Forces}
use Rattle.quantities.specs.declared.grade.Grade.{Grade}
use Rattle.quantities.specs.declared.readings.Readings.{Readings}
use Rattle.quantities.specs.declared.within.Within.{Within}
use Rattle.design_code.specs.Meaning.{Rule}
use Rattle.design_code.specs.Verdicts.{Verdict, all_met}
use Rattle.keyed_table.specs.Rows.{added, without, replaced}
use Rattle.ledger.specs.Ledger.{Ledger, culm_key, member_key, grade_at, class_at, culm_at, member_at, Piece, bundle, basis_of, at, staged, reloaded, raised, dropped, struck, moved_by, on_rack, held_by, stands_in, is_ticket, stands, is_in_hand, out_of_hand, is_judged, counts, with_grades, with_classes, with_culms, with_members}
use Rattle.ledger.specs.Orders.{Order, measured}
use Rattle.ledger.specs.Orders.Order.{define_grade, define_class, add_culm, scrap_culm, open_ticket, check_out, check_in, hold, free, judge, set_member, drop_ticket, strike, load, judge_without, look_culm, look_member, look_counts}
use Rattle.ledger.specs.declared.answer.Answer.{Answer}
use Rattle.ledger.specs.declared.answer.Answer.TheVariants.{Done, OneCulm, OneMember, AllCounts}
use Rattle.ledger.specs.declared.call.Call.{Call}
use Rattle.ledger.specs.declared.call.Call.TheVariants.{LookCulm, LookMember, LookCounts}
use Rattle.ledger.specs.declared.culm.Culm.{Culm}
use Rattle.ledger.specs.declared.culm.Place.{Place}
use Rattle.ledger.specs.declared.culm.Place.TheVariants.{Rack, Held}
use Rattle.ledger.specs.declared.fault.BookFault.{BookFault}
use Rattle.ledger.specs.declared.fault.BookFault.TheVariants.{Measure, AlreadyDefined, NotDefined, CulmKnown, CulmUnknown, CulmNotOnRack, NoCulmRow, MemberKnown, NotStanding, NoMemberRow, NoTicket, OtherState, BundleFull, OtherGrade, NotOfBundle, NoCulm, Clause}
use Rattle.ledger.specs.declared.member.Member.{Member}
use Rattle.ledger.specs.declared.member.Stage.TheVariants.{Ticket, Standing}

-- a row of the table: the fault, and when it is called for
pub record Check : Type 0 where
  pub fault : BookFault
  pub when : Bool

abbrev pub check : BookFault → Bool → Check
check f b = record { fault = f; when = b }

-- conditions on what may be there
abbrev pub absent : {X : Type 0} → Option X → Bool
absent None = true
absent (Some x) = false

abbrev pub present : {X : Type 0} → Option X → Bool
present None = false
present (Some x) = true

-- there is none, or it is not so
abbrev pub is_not : {X : Type 0} → (X → Bool) → Option X → Bool
is_not p None = true
is_not p (Some x) = not (p x)

-- there is one, and it is so
abbrev pub is_so : {X : Type 0} → (X → Bool) → Option X → Bool
is_so p None = false
is_so p (Some x) = p x

-- what the code is asked about: a bundle with its basis, and forces
pub record Question : Type 0 where
  pub culms : List Readings
  pub basis : DesignBasis
  pub forces : Forces

-- the question about a bundle for a member; there is none about no culms
abbrev pub question_of : List Piece → Member → Option Question
question_of [] m = None
question_of (c ∷ cs) m = Some (record { culms = map (λ x. x.readings) (c ∷ cs); basis = basis_of c.strengths m; forces = m.forces })

abbrev pub question_for : List Piece → Option Member → Option Question
question_for cs None = None
question_for cs (Some m) = question_of cs m

abbrev pub verdict_on : Rule → Option Question → Verdict
verdict_on rule None = all_met
verdict_on rule (Some q) = rule q.culms q.basis q.forces

abbrev pub refuses : Verdict → Bool
refuses (Ok _) = false
refuses (Err r) = true

abbrev pub clause_of : Verdict → ℕ
clause_of (Ok _) = 0
clause_of (Err r) = r.clause

-- 23, where the code answers a number
abbrev pub strength : Rule → Option Question → Check
strength rule q = check (Clause (clause_of (verdict_on rule q))) (refuses (verdict_on rule q))

-- the questions of judge, load and judge without
abbrev pub ticket_question : Ledger → ℕ → Option Question
ticket_question l m = question_for (bundle m l.culms) (member_at l m)

abbrev pub reloaded_at : Duration → Forces → Option Member → Option Member
reloaded_at d f None = None
reloaded_at d f (Some m) = Some (reloaded d f m)

abbrev pub load_question : Ledger → ℕ → Duration → Forces → Option Question
load_question l m d f = question_for (bundle m l.culms) (reloaded_at d f (member_at l m))

abbrev pub without_question : Ledger → (m n : ℕ) → Option Question
without_question l m n = question_for (bundle m (without culm_key n l.culms)) (member_at l m)

-- the grade number of the culms held, if any
abbrev pub grade_held : List Piece → Option ℕ
grade_held [] = None
grade_held (c ∷ cs) = Some c.grade

abbrev pub other_grade : Option ℕ → Option Culm → Bool
other_grade None c = false
other_grade (Some g) None = false
other_grade (Some g) (Some c) = not (c.grade == g)

-- the checks of every call, in their order
abbrev pub checks_of : Rule → Ledger → Order → List Check
checks_of rule l (define_grade g x) = check AlreadyDefined (present (grade_at l g)) ∷ []
checks_of rule l (define_class s x) = check AlreadyDefined (present (class_at l s)) ∷ []
checks_of rule l (add_culm n g x) =
    check NotDefined (absent (grade_at l g))
    ∷ check CulmKnown (present (culm_at l n))
    ∷ check NoCulmRow (not (nat_lt (length l.culms) l.culm_rows)) ∷ []
checks_of rule l (scrap_culm n) =
    check CulmUnknown (absent (culm_at l n))
    ∷ check CulmNotOnRack (is_not on_rack (culm_at l n)) ∷ []
checks_of rule l (open_ticket m x s d f) =
    check NotDefined (absent (class_at l s))
    ∷ check MemberKnown (present (member_at l m))
    ∷ check NoMemberRow (not (nat_lt (length l.members) l.member_rows))
    ∷ check NoMemberRow (not (nat_lt (count_by is_ticket l.members) 8)) ∷ []
checks_of rule l (check_out m) = check NoTicket (is_not out_of_hand (member_at l m)) ∷ []
checks_of rule l (check_in m) = check NoTicket (is_not is_in_hand (member_at l m)) ∷ []
checks_of rule l (hold m n) =
    check NoTicket (is_not is_in_hand (member_at l m))
    ∷ check OtherState (is_so is_judged (member_at l m))
    ∷ check CulmUnknown (absent (culm_at l n))
    ∷ check CulmNotOnRack (is_not on_rack (culm_at l n))
    ∷ check BundleFull (not (nat_lt (length (bundle m l.culms)) 16))
    ∷ check OtherGrade (other_grade (grade_held (bundle m l.culms)) (culm_at l n)) ∷ []
checks_of rule l (free m n) =
    check NoTicket (is_not is_in_hand (member_at l m))
    ∷ check OtherState (is_so is_judged (member_at l m))
    ∷ check CulmUnknown (absent (culm_at l n))
    ∷ check NotOfBundle (is_not (held_by m) (culm_at l n)) ∷ []
checks_of rule l (judge m) =
    check NoTicket (is_not is_in_hand (member_at l m))
    ∷ check OtherState (is_so is_judged (member_at l m))
    ∷ check NoCulm (absent (ticket_question l m))
    ∷ strength rule (ticket_question l m) ∷ []
checks_of rule l (set_member m) =
    check NoTicket (is_not is_in_hand (member_at l m))
    ∷ check OtherState (is_not is_judged (member_at l m)) ∷ []
checks_of rule l (drop_ticket m) = check NoTicket (is_not is_in_hand (member_at l m)) ∷ []
checks_of rule l (strike m) = check NotStanding (is_not stands (member_at l m)) ∷ []
checks_of rule l (load m d f) =
    check NotStanding (is_not stands (member_at l m))
    ∷ strength rule (load_question l m d f) ∷ []
checks_of rule l (judge_without m n) =
    check NotStanding (is_not stands (member_at l m))
    ∷ check CulmUnknown (absent (culm_at l n))
    ∷ check NotOfBundle (is_not (stands_in m) (culm_at l n))
    ∷ check NoCulm (absent (without_question l m n))
    ∷ strength rule (without_question l m n) ∷ []
checks_of rule l (look_culm n) = check CulmUnknown (absent (culm_at l n)) ∷ []
checks_of rule l (look_member m) = check NotStanding (is_not stands (member_at l m)) ∷ []
checks_of rule l look_counts = []

-- rows changed where there are any
abbrev pub changed_culm : (Culm → Culm) → Option Culm → List Culm → List Culm
changed_culm f None cs = cs
changed_culm f (Some c) cs = replaced culm_key (f c) cs

abbrev pub changed_member : (Member → Member) → Option Member → List Member → List Member
changed_member f None ms = ms
changed_member f (Some m) ms = replaced member_key (f m) ms

abbrev pub change_culm : Ledger → (Culm → Culm) → ℕ → Ledger
change_culm l f n = with_culms l (changed_culm f (culm_at l n) l.culms)

abbrev pub change_member : Ledger → (Member → Member) → ℕ → Ledger
change_member l f m = with_members l (changed_member f (member_at l m) l.members)

-- a new culm of a defined grade, and a new ticket of a defined class
abbrev pub new_culm : (n g : ℕ) → Readings → Option Grade → List Culm → List Culm
new_culm n g x None cs = cs
new_culm n g x (Some s) cs = added culm_key (record { number = n; grade = g; strengths = s; readings = x; place = Rack }) cs

abbrev pub new_ticket : (m : ℕ) → Within 500 8000 → (s : ℕ) → Duration → Forces → Option ServiceClass → List Member → List Member
new_ticket m x s d f None ms = ms
new_ticket m x s d f (Some c) ms =
    added member_key (record { number = m; length = x; class = s; factors = c; duration = d; forces = f; stage = Ticket false true }) ms

-- in hand or not, judged as it is
abbrev pub handed : Bool → Member → Member
handed h m = staged (Ticket (is_judged m) h) m

-- the ticket or member m goes, and its culms move
abbrev pub removed : Ledger → ℕ → (Place → Place) → Ledger
removed l m f = with_culms (with_members l (without member_key m l.members)) (map (moved_by f) l.culms)

-- what an accepted call writes
abbrev pub done_by : Ledger → Order → Ledger
done_by l (define_grade g x) = with_grades l (slice_set l.grades (g - 1) (Some x))
done_by l (define_class s x) = with_classes l (slice_set l.classes (s - 1) (Some x))
done_by l (add_culm n g x) = with_culms l (new_culm n g x (grade_at l g) l.culms)
done_by l (scrap_culm n) = with_culms l (without culm_key n l.culms)
done_by l (open_ticket m x s d f) = with_members l (new_ticket m x s d f (class_at l s) l.members)
done_by l (check_out m) = change_member l (handed true) m
done_by l (check_in m) = change_member l (handed false) m
done_by l (hold m n) = change_culm l (at (Held m)) n
done_by l (free m n) = change_culm l (at Rack) n
done_by l (judge m) = change_member l (staged (Ticket true true)) m
done_by l (set_member m) = with_culms (change_member l (staged Standing) m) (map (moved_by (raised m)) l.culms)
done_by l (drop_ticket m) = removed l m (dropped m)
done_by l (strike m) = removed l m (struck m)
done_by l (load m d f) = change_member l (reloaded d f) m
done_by l _ = l

-- what a look tells
abbrev pub told_culm : Option Culm → Answer
told_culm None = Done
told_culm (Some c) = OneCulm c

abbrev pub told_member : Option Member → Answer
told_member None = Done
told_member (Some m) = OneMember m

-- what an accepted call is answered
abbrev pub accepted_by : Ledger → Call → Answer
accepted_by l (LookCulm n) = told_culm (culm_at l n)
accepted_by l (LookMember m) = told_member (member_at l m)
accepted_by l LookCounts = AllCounts (counts l)
accepted_by l _ = Done

-- the first fault that the checks call for
abbrev pub first_of : List Check → Result (Unit {0}) BookFault
first_of [] = Ok tt
first_of (c ∷ cs) = cond c.when (Err c.fault) (first_of cs)

-- the ledger after a call: as it was where a check refuses
abbrev pub afterwards : {X : Type 0} → List Check → X → X → X
afterwards [] was new = new
afterwards (c ∷ cs) was new = cond c.when was (afterwards cs was new)

-- an order, whose measures are in order: the first fault that it is refused by, and the ledger after it
abbrev pub order_refusal : Rule → Ledger → Order → Result (Unit {0}) BookFault
order_refusal rule l o = first_of (checks_of rule l o)

abbrev pub after_order : Rule → Ledger → Order → Ledger
after_order rule l o = afterwards (checks_of rule l o) l (done_by l o)

-- the same where measures may be at fault, which comes first
abbrev pub refusal_of : Rule → Ledger → Result Order MeasureFault → Result (Unit {0}) BookFault
refusal_of rule l (Err f) = Err (Measure f)
refusal_of rule l (Ok o) = order_refusal rule l o

abbrev pub next_of : Rule → Ledger → Result Order MeasureFault → Ledger
next_of rule l (Err f) = l
next_of rule l (Ok o) = after_order rule l o

-- one call: the first fault that it is refused by, its answer, and the ledger after it
abbrev pub refusal : Rule → Ledger → Call → Result (Unit {0}) BookFault
refusal rule l c = refusal_of rule l (measured c)

abbrev pub answered : Answer → Result (Unit {0}) BookFault → Result Answer BookFault
answered a (Ok _) = Ok a
answered a (Err f) = Err f

abbrev pub told : Rule → Ledger → Call → Result Answer BookFault
told rule l c = answered (accepted_by l c) (refusal rule l c)

abbrev pub next : Rule → Ledger → Call → Ledger
next rule l c = next_of rule l (measured c)
