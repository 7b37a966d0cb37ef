-- What every ledger that began empty keeps: bundles are small, and judged tickets and standing members are met by the rule. Assumes nothing.
use Rattle.std.proofs.Common.{Ok, Err, ◌≡◌, ℕ, ◌+◌, ◌<◌, ◌≤◌, Bool, true, false, eqb, ◌≢◌, List, [], ◌∷◌, map, length, Some, None, Option, sym, refl, ap, ◌∙◌, subst, ⊎_elim, arith, length-append}
use Rattle.std.proofs.lemmas.Bool.{cond-false, cond_both, cases_eq, ne_eqb, eqb-true, ltb-true, not-false}
use Rattle.design_code.specs.Meaning.{Rule}
use Rattle.design_code.specs.Verdicts.{Verdict, all_met}
use Rattle.keyed_table.specs.Rows.{lookup, added, without, replaced}
use Rattle.keyed_table.proofs.Lookups.{adding, removing, replacing as replacing-laws}
use Rattle.ledger.specs.Ledger.{Ledger, culm_key, member_key, grade_at, class_at, culm_at, member_at, Piece, part_of, bundle, at, staged, reloaded, raised, dropped, struck, moved_by, on_rack, held_by, stands, is_in_hand, out_of_hand, is_judged, with_culms, with_members}
use Rattle.ledger.specs.Orders.{Order}
use Rattle.ledger.specs.Orders.Order.{define_grade, define_class, add_culm, scrap_culm, open_ticket, check_out, check_in, hold, free, judge, set_member, drop_ticket, strike, load, judge_without, look_culm, look_member, look_counts}
use Rattle.ledger.specs.Table.{Check, Question, question_of, question_for, verdict_on, refuses, ticket_question, load_question, reloaded_at, absent, present, is_not, is_so, checks_of, done_by, changed_culm, changed_member, new_culm, new_ticket, handed, removed, afterwards}
use Rattle.ledger.specs.declared.culm.Culm.{Culm}
use Rattle.ledger.specs.declared.culm.Place.{Place}
use Rattle.ledger.specs.declared.culm.Place.TheVariants.{Rack, Held, Standing}
use Rattle.ledger.specs.declared.member.Member.{Member}
use Rattle.ledger.specs.declared.member.Stage.{Stage}
use Rattle.ledger.specs.declared.member.Stage.TheVariants.{Ticket, Standing as Stands}
use Rattle.ledger.proofs.Numbered.{no_none, no_truth, lookup_key, Apart, apart_added, apart_without, apart_map, apart_replaced, joined_map, joined_added_none, joined_replaced_same, joined_without_none, length_replaced}

-- no check applies
abbrev pub Pass : List Check → Type 0
Pass [] = Unit {0}
Pass (c ∷ cs) = (c.when ≡ false) × Pass cs

-- what holds before a call, and after it where no check applies, holds after it
pub keeps : {X : Type 0} (P : X → Type 0) (cs : List Check) (was new : X) → P was → (Pass cs → P new) → P (afterwards cs was new)
keeps P [] was new p q = q tt
keeps P (c ∷ cs) was new p q = cond_both c.when was (afterwards cs was new) P (λ _. p) (λ f. keeps P cs was new p (λ r. q (f, r)))

-- what tests of what may be there say
pub is_absent : {X : Type 0} (o : Option X) → present o ≡ false → o ≡ None
is_absent None e = refl
is_absent (Some x) e = no_truth e

pub is_present : {X : Type 0} (o : Option X) → absent o ≡ false → (x : X) × (o ≡ Some x)
is_present None e = no_truth e
is_present (Some x) e = (x, refl)

pub is_so_lem : {X : Type 0} (p : X → Bool) (o : Option X) → is_not p o ≡ false → (x : X) × (o ≡ Some x) × (p x ≡ true)
is_so_lem p None e = no_truth e
is_so_lem p (Some x) e = (x, refl, not-false (p x) e)

pub met : (v : Verdict) → refuses v ≡ false → v ≡ all_met
met (Ok _) e = refl
met (Err r) e = no_truth e

-- the parts of a culm in its places
abbrev pub part : ℕ → Culm → List Piece
part m c = part_of m c c.place

pub part_rack : (m : ℕ) (c : Culm) (p : Place) → on_rack (at p c) ≡ true → part_of m c p ≡ []
part_rack m c Rack e = refl
part_rack m c (Held k) e = no_truth (sym e)
part_rack m c (Standing k) e = no_truth (sym e)

pub part_held_other : (m k : ℕ) (c : Culm) → k ≢ m → part_of k c (Held m) ≡ []
part_held_other m k c ne = cond-false (eqb m k) _ _ (ne_eqb m k (λ e. ne (sym e)))

pub part_of_holder : (m k : ℕ) (c : Culm) (p : Place) → held_by m (at p c) ≡ true → k ≢ m → part_of k c p ≡ []
part_of_holder m k c Rack e ne = refl
part_of_holder m k c (Standing j) e ne = no_truth (sym e)
part_of_holder m k c (Held j) e ne = cond-false (eqb j k) _ _ (ne_eqb j k (λ s. ne (sym s ∙ eqb-true j m e)))

pub part_raised : (m k : ℕ) (c : Culm) (p : Place) → part_of k c (raised m p) ≡ part_of k c p
part_raised m k c Rack = refl
part_raised m k c (Standing j) = refl
part_raised m k c (Held j) = cond_both (eqb j m) (Standing j) (Held j) (λ q. part_of k c q ≡ part_of k c (Held j)) (λ _. refl) (λ _. refl)

pub part_dropped : (m k : ℕ) (c : Culm) (p : Place) → k ≢ m → part_of k c (dropped m p) ≡ part_of k c p
part_dropped m k c Rack ne = refl
part_dropped m k c (Standing j) ne = refl
part_dropped m k c (Held j) ne =
    cond_both (eqb j m) Rack (Held j) (λ q. part_of k c q ≡ part_of k c (Held j))
    (λ t. sym (cond-false (eqb j k) _ _ (ne_eqb j k (λ s. ne (sym s ∙ eqb-true j m t))))) (λ _. refl)

pub part_struck : (m k : ℕ) (c : Culm) (p : Place) → k ≢ m → part_of k c (struck m p) ≡ part_of k c p
part_struck m k c Rack ne = refl
part_struck m k c (Held j) ne = refl
part_struck m k c (Standing j) ne =
    cond_both (eqb j m) Rack (Standing j) (λ q. part_of k c q ≡ part_of k c (Standing j))
    (λ t. sym (cond-false (eqb j k) _ _ (ne_eqb j k (λ s. ne (sym s ∙ eqb-true j m t))))) (λ _. refl)

pub length_part : (m : ℕ) (c : Culm) (p : Place) → length (part_of m c p) ≤ 1
length_part m c Rack = omega arith
length_part m c (Held k) = cond_both (eqb k m) _ _ (λ z. length z ≤ 1) (λ _. omega arith) (λ _. omega arith)
length_part m c (Standing k) = cond_both (eqb k m) _ _ (λ z. length z ≤ 1) (λ _. omega arith) (λ _. omega arith)

-- a culm that is let go gives no more than before
pub length_dropped : (m k : ℕ) (c : Culm) (p : Place) → length (part_of k c (dropped m p)) ≤ length (part_of k c p)
length_dropped m k c Rack = omega arith
length_dropped m k c (Standing j) = omega arith
length_dropped m k c (Held j) = cond_both (eqb j m) Rack (Held j) (λ q. length (part_of k c q) ≤ length (part_of k c (Held j))) (λ _. omega arith) (λ _. omega arith)

pub length_struck : (m k : ℕ) (c : Culm) (p : Place) → length (part_of k c (struck m p)) ≤ length (part_of k c p)
length_struck m k c Rack = omega arith
length_struck m k c (Held j) = omega arith
length_struck m k c (Standing j) =
    cond_both (eqb j m) Rack (Standing j) (λ q. length (part_of k c q) ≤ length (part_of k c (Standing j))) (λ _. omega arith) (λ _. omega arith)

-- a bundle that the rule accepts for the member
pub record Accepted (rule : Rule) (b : List Piece) (r : Member) : Type 0 where
  pub question : Question
  pub about : question_of b r ≡ Some question
  pub is_met : verdict_on rule (Some question) ≡ all_met

-- owed to a judged ticket and to a standing member
abbrev pub OwedAt : Stage → Type 0 → Type 0
OwedAt (Ticket judged hand) T = judged ≡ true → T
OwedAt Stands T = T

abbrev pub Owed : Rule → List Piece → Option Member → Type 0
Owed rule b None = Unit {0}
Owed rule b (Some r) = OwedAt r.stage (Accepted rule b r)

pub record Good (rule : Rule) (l : Ledger) : Type 0 where
  pub apart : Apart culm_key l.culms
  pub few : (m : ℕ) → length (bundle m l.culms) ≤ 16
  pub owed : (m : ℕ) → Owed rule (bundle m l.culms) (member_at l m)

-- by the stage of a member
unjudged_owes : (t : Member) (s : Stage) (T : Type 0) → is_in_hand (staged s t) ≡ true → is_judged (staged s t) ≡ false → OwedAt s T
unjudged_owes t (Ticket judged hand) T h j = λ e. no_truth (sym e ∙ j)
unjudged_owes t Stands T h j = no_truth (sym h)

pub judged_owes : (t : Member) (s : Stage) (T : Type 0) → OwedAt s T → is_judged (staged s t) ≡ true → T
judged_owes t (Ticket judged hand) T o j = o j
judged_owes t Stands T o j = o

pub standing_owes : (t : Member) (s : Stage) (T : Type 0) → OwedAt s T → stands (staged s t) ≡ true → T
standing_owes t (Ticket judged hand) T o j = no_truth (sym j)
standing_owes t Stands T o j = o

pub stage_stands : (t : Member) (s : Stage) → stands (staged s t) ≡ true → s ≡ Stands
stage_stands t (Ticket judged hand) j = no_truth (sym j)
stage_stands t Stands j = refl

-- the same question, whatever the stage
restaged : (rule : Rule) (b : List Piece) (r : Member) (s : Stage) → Accepted rule b r → Accepted rule b (staged s r)
restaged rule [] r s a = no_none (sym a.about)
restaged rule (c ∷ cs) r s a = record { question = a.question; about = a.about; is_met = a.is_met }

-- a culm moves to or from m: m's bundle stays small, and no other bundle changes
module _ (cs : List Culm) (a : Apart culm_key cs) (m n : ℕ) (to : Place) (r : Culm) (er : lookup culm_key n cs ≡ Some r)
    (same : (k : ℕ) → k ≢ m → part_of k r to ≡ part_of k r r.place) where
  own_row : lookup culm_key r.number cs ≡ Some r
  own_row = ap (λ k. lookup culm_key k cs) (lookup_key culm_key n cs r er) ∙ er

  pub moved_others : (k : ℕ) → k ≢ m → bundle k (replaced culm_key (at to r) cs) ≡ bundle k cs
  moved_others k other = joined_replaced_same culm_key (part k) (at to r) r cs a own_row (same k other)

  pub moved_few : ((k : ℕ) → length (bundle k cs) ≤ 16) → length (bundle m cs) + length (part_of m r to) ≤ 16 + length (part_of m r r.place)
      → (k : ℕ) → length (bundle k (replaced culm_key (at to r) cs)) ≤ 16
  moved_few few small k =
      let sizes = length_replaced culm_key (part m) (at to r) r cs a own_row in
      ⊎_elim (λ is. subst (λ j. length (bundle j (replaced culm_key (at to r) cs)) ≤ 16) (sym is) (omega (arith, sizes)))
      (λ other. subst (λ b. length b ≤ 16) (sym (moved_others k other)) (few k)) (cases_eq k m)

module _ (rule : Rule) (l : Ledger) (h : Good rule l) where
  -- the culms change, and no bundle does
  culms_kept : (cs : List Culm) → Apart culm_key cs → ((m : ℕ) → bundle m cs ≡ bundle m l.culms) → Good rule (with_culms l cs)
  culms_kept cs a same = record {
    apart = a;
    few = λ m. subst (λ b. length b ≤ 16) (sym (same m)) (h.few m);
    owed = λ m. subst (λ b. Owed rule b (member_at l m)) (sym (same m)) (h.owed m);
  }

  -- one member changes, keeps its number and is owed what it then needs; culms may change, and no bundle does
  member_kept : (m : ℕ) (t x : Member) (cs : List Culm) → member_at l m ≡ Some t → x.number ≡ t.number → Apart culm_key cs
      → ((k : ℕ) → bundle k cs ≡ bundle k l.culms) → OwedAt x.stage (Accepted rule (bundle m l.culms) x)
      → Good rule (with_culms (with_members l (replaced member_key x l.members)) cs)
  member_kept m t x cs e n a same o =
      let is_m : x.number ≡ m = n ∙ lookup_key member_key m l.members t e in
      let found : lookup member_key x.number l.members ≡ Some t = ap (λ k. lookup member_key k l.members) is_m ∙ e in
      record {
        apart = a;
        few = λ k. subst (λ b. length b ≤ 16) (sym (same k)) (h.few k);
        owed = λ k.
            subst (λ b. Owed rule b (lookup member_key k (replaced member_key x l.members))) (sym (same k))
            (⊎_elim
            (λ is. subst (λ j. Owed rule (bundle j l.culms) (lookup member_key j (replaced member_key x l.members))) (sym is)
            (subst (Owed rule (bundle x.number l.culms)) (sym ((replacing-laws member_key x l.members).found t found))
            (subst (λ j. OwedAt x.stage (Accepted rule (bundle j l.culms) x)) (sym is_m) o)))
            (λ other. subst (Owed rule (bundle k l.culms)) (sym ((replacing-laws member_key x l.members).others k other)) (h.owed k))
            (cases_eq k x.number));
      }

  stage_kept : (m : ℕ) (f : Member → Member) (t : Member) → member_at l m ≡ Some t → (f t).number ≡ t.number
      → OwedAt (f t).stage (Accepted rule (bundle m l.culms) (f t)) → Good rule (with_members l (changed_member f (member_at l m) l.members))
  stage_kept m f t e n o =
      subst (λ w. Good rule (with_members l (changed_member f w l.members))) (sym e)
      (member_kept m t (f t) l.culms e n h.apart (λ k. refl) o)

  -- a ticket or member goes, and its culms are let go by f
  module _ (m : ℕ) (f : Place → Place) (others : (k : ℕ) (c : Culm) (p : Place) → k ≢ m → part_of k c (f p) ≡ part_of k c p)
      (less : (k : ℕ) (c : Culm) (p : Place) → length (part_of k c (f p)) ≤ length (part_of k c p)) where
    length_moved : (k : ℕ) (cs : List Culm) → length (bundle k (map (moved_by f) cs)) ≤ length (bundle k cs)
    length_moved k [] = omega arith
    length_moved k (c ∷ cs) =
        omega (
          arith,
          length-append (part_of k c (f c.place)) (bundle k (map (moved_by f) cs)),
          length-append (part_of k c c.place) (bundle k cs),
          less k c c.place,
          length_moved k cs,
        )

    removed_kept : Good rule (removed l m f)
    removed_kept = record {
      apart = apart_map culm_key (moved_by f) (λ x. refl) l.culms h.apart;
      few = λ k. omega (arith, length_moved k l.culms, h.few k);
      owed = λ k.
          ⊎_elim
          (λ is. subst (Owed rule (bundle k (map (moved_by f) l.culms)))
          (sym (ap (λ j. lookup member_key j (without member_key m l.members)) is ∙ (removing member_key m l.members).gone)) tt)
          (λ other.
          subst (Owed rule (bundle k (map (moved_by f) l.culms))) (sym ((removing member_key m l.members).others k other))
          (subst (λ b. Owed rule b (member_at l k))
          (sym (joined_map culm_key (part k) (moved_by f) (λ x. others k x x.place other) l.culms)) (h.owed k)))
          (cases_eq k m);
    }

  handed_kept : (m : ℕ) (b : Bool) (t : Member) → member_at l m ≡ Some t → Good rule (with_members l (changed_member (handed b) (member_at l m) l.members))
  handed_kept m b t e =
      stage_kept m (handed b) t e refl
      (λ j. restaged rule (bundle m l.culms) t (Ticket (is_judged t) b) (judged_owes t t.stage _ (subst (Owed rule (bundle m l.culms)) e (h.owed m)) j))

  -- a bundle for another duration and other forces, which the rule accepts
  accepted_from : (b : List Piece) (r : Member) (q : Question) → question_of b r ≡ Some q → verdict_on rule (question_of b r) ≡ all_met → Accepted rule b r
  accepted_from b r q e v = record { question = q; about = e; is_met = ap (verdict_on rule) (sym e) ∙ v }

  some_question : (b : List Piece) (r : Member) → (length b ≡ 0 → ⊥) → (q : Question) × (question_of b r ≡ Some q)
  some_question [] r n = absurd (n refl)
  some_question (c ∷ cs) r n = (_, refl)

  not_empty : (b : List Piece) (r : Member) → Accepted rule b r → length b ≡ 0 → ⊥
  not_empty [] r a n = no_none (sym a.about)
  not_empty (c ∷ cs) r a n = omega arith

  owed_any : (s : Stage) (T : Type 0) → T → OwedAt s T
  owed_any (Ticket judged hand) T x = λ _. x
  owed_any Stands T x = x

  -- a culm moves for a ticket that is owed nothing: the ticket's bundle stays small, and no other bundle changes
  moved_kept : (m n : ℕ) (to : Place) (r : Culm) (t : Member) → member_at l m ≡ Some t → culm_at l n ≡ Some r
      → ((T : Type 0) → OwedAt t.stage T) → length (bundle m l.culms) + length (part_of m r to) ≤ 16 + length (part_of m r r.place)
      → ((k : ℕ) → k ≢ m → part_of k r to ≡ part_of k r r.place) → Good rule (with_culms l (changed_culm (at to) (culm_at l n) l.culms))
  moved_kept m n to r t et er nothing small same =
      let x = at to r in
      let others = moved_others l.culms h.apart m n to r er same in
      subst (λ o. Good rule (with_culms l (changed_culm (at to) o l.culms))) (sym er)
      (record {
        apart = apart_replaced culm_key x l.culms h.apart;
        few = moved_few l.culms h.apart m n to r er same h.few small;
        owed = λ k.
            ⊎_elim
            (λ is. subst (λ j. Owed rule (bundle j (replaced culm_key x l.culms)) (member_at l j)) (sym is)
            (subst (Owed rule (bundle m (replaced culm_key x l.culms))) (sym et) (nothing _)))
            (λ other. subst (λ b. Owed rule b (member_at l k)) (sym (others k other)) (h.owed k)) (cases_eq k m);
      })

  -- each call, where no check applies
  pub done_kept : (o : Order) → Pass (checks_of rule l o) → Good rule (done_by l o)
  done_kept (define_grade g x) p = record { apart = h.apart; few = h.few; owed = h.owed }
  done_kept (define_class s x) p = record { apart = h.apart; few = h.few; owed = h.owed }
  done_kept (add_culm n g x) p =
      let d = is_present (grade_at l g) p.0 in
      let c : Culm = record { number = n; grade = g; strengths = d.0; readings = x; place = Rack } in
      subst (λ w. Good rule (with_culms l (new_culm n g x w l.culms))) (sym d.1)
      (culms_kept (added culm_key c l.culms) (apart_added culm_key c l.culms (is_absent (culm_at l n) p.1.0) h.apart)
      (λ m. joined_added_none culm_key (part m) c l.culms refl))
  done_kept (scrap_culm n) p =
      let r = is_so_lem on_rack (culm_at l n) p.1.0 in
      culms_kept (without culm_key n l.culms) (apart_without culm_key n l.culms h.apart)
      (λ m. joined_without_none culm_key (part m) n r.0 l.culms h.apart r.1 (part_rack m r.0 r.0.place r.2))
  done_kept (open_ticket m x s d f) p =
      let c = is_present (class_at l s) p.0 in
      let t : Member = record { number = m; length = x; class = s; factors = c.0; duration = d; forces = f; stage = Ticket false true } in
      subst (λ w. Good rule (with_members l (new_ticket m x s d f w l.members))) (sym c.1)
      (record {
        apart = h.apart;
        few = h.few;
        owed = λ k.
            ⊎_elim
            (λ is. subst (λ j. Owed rule (bundle j l.culms) (lookup member_key j (added member_key t l.members))) (sym is)
            (subst (Owed rule (bundle m l.culms)) (sym (adding member_key t l.members).found) (λ e. no_truth (sym e))))
            (λ other. subst (Owed rule (bundle k l.culms)) (sym ((adding member_key t l.members).others k other)) (h.owed k))
            (cases_eq k m);
      })
  done_kept (check_out m) p = let t = is_so_lem out_of_hand (member_at l m) p.0 in handed_kept m true t.0 t.1
  done_kept (check_in m) p = let t = is_so_lem is_in_hand (member_at l m) p.0 in handed_kept m false t.0 t.1
  done_kept (hold m n) p =
      let t = is_so_lem is_in_hand (member_at l m) p.0 in
      let j : is_judged t.0 ≡ false = ap (is_so is_judged) (sym t.1) ∙ p.1.0 in
      let r = is_so_lem on_rack (culm_at l n) p.1.1.1.0 in
      let room : length (bundle m l.culms) < 16 = ltb-true _ 16 (not-false _ p.1.1.1.1.0) in
      moved_kept m n (Held m) r.0 t.0 t.1 r.1 (λ T. unjudged_owes t.0 t.0.stage T t.2 j)
      (omega (arith, length_part m r.0 (Held m)))
      (λ k other. part_held_other m k r.0 other ∙ sym (part_rack k r.0 r.0.place r.2))
  done_kept (free m n) p =
      let t = is_so_lem is_in_hand (member_at l m) p.0 in
      let j : is_judged t.0 ≡ false = ap (is_so is_judged) (sym t.1) ∙ p.1.0 in
      let r = is_so_lem (held_by m) (culm_at l n) p.1.1.1.0 in
      moved_kept m n Rack r.0 t.0 t.1 r.1 (λ T. unjudged_owes t.0 t.0.stage T t.2 j)
      (omega (arith, h.few m))
      (λ k other. sym (part_of_holder m k r.0 r.0.place r.2 other))
  done_kept (judge m) p =
      let t = is_so_lem is_in_hand (member_at l m) p.0 in
      let q = is_present (ticket_question l m) p.1.1.0 in
      let e : question_of (bundle m l.culms) t.0 ≡ Some q.0 = ap (question_for (bundle m l.culms)) (sym t.1) ∙ q.1 in
      let v : verdict_on rule (question_of (bundle m l.culms) t.0) ≡ all_met =
      ap (λ o. verdict_on rule (question_for (bundle m l.culms) o)) (sym t.1) ∙ met (verdict_on rule (ticket_question l m)) p.1.1.1.0 in
      stage_kept m (staged (Ticket true true)) t.0 t.1 refl
      (λ _. restaged rule (bundle m l.culms) t.0 (Ticket true true) (accepted_from (bundle m l.culms) t.0 q.0 e v))
  done_kept (set_member m) p =
      let t = is_so_lem is_judged (member_at l m) p.1.0 in
      let a = judged_owes t.0 t.0.stage _ (subst (Owed rule (bundle m l.culms)) t.1 (h.owed m)) t.2 in
      subst (λ w. Good rule (with_culms (with_members l (changed_member (staged Stands) w l.members)) (map (moved_by (raised m)) l.culms))) (sym t.1)
      (member_kept m t.0 (staged Stands t.0) (map (moved_by (raised m)) l.culms) t.1 refl
      (apart_map culm_key (moved_by (raised m)) (λ x. refl) l.culms h.apart)
      (λ k. joined_map culm_key (part k) (moved_by (raised m)) (λ x. part_raised m k x x.place) l.culms)
      (restaged rule (bundle m l.culms) t.0 Stands a))
  done_kept (drop_ticket m) p = removed_kept m (dropped m) (part_dropped m) (length_dropped m)
  done_kept (strike m) p = removed_kept m (struck m) (part_struck m) (length_struck m)
  done_kept (load m d f) p =
      let t = is_so_lem stands (member_at l m) p.0 in
      let a = standing_owes t.0 t.0.stage _ (subst (Owed rule (bundle m l.culms)) t.1 (h.owed m)) t.2 in
      let q = some_question (bundle m l.culms) (reloaded d f t.0) (not_empty (bundle m l.culms) t.0 a) in
      let v : verdict_on rule (question_of (bundle m l.culms) (reloaded d f t.0)) ≡ all_met =
      ap (λ o. verdict_on rule (question_for (bundle m l.culms) (reloaded_at d f o))) (sym t.1) ∙ met (verdict_on rule (load_question l m d f)) p.1.0 in
      let fresh = accepted_from (bundle m l.culms) (reloaded d f t.0) q.0 q.1 v in
      stage_kept m (reloaded d f) t.0 t.1 refl (owed_any t.0.stage _ fresh)
  done_kept (judge_without m n) p = h
  done_kept (look_culm n) p = h
  done_kept (look_member m) p = h
  done_kept look_counts p = h
