-- How many culms a call adds or takes out, and whose readings a ledger has. Assumes nothing.
use Rattle.std.proofs.Common.{◌≡◌, ℕ, ◌+◌, true, false, cond, eqb, List, [], ◌∷◌, map, length, Some, None, Ok, Err, count_by, Option, Result, sym, refl, ap, ◌∙◌, subst, ⊎_elim, arith, is_err}
use Rattle.std.proofs.lemmas.List.Sums.{sum_by-cons}
use Rattle.std.proofs.lemmas.Bool.{cond-true, cond-false, cases_eq, ne_eqb, eq-eqb}
use Rattle.quantities.specs.declared.fault.MeasureFault.{MeasureFault}
use Rattle.design_code.specs.Meaning.{Rule}
use Rattle.keyed_table.specs.Rows.{lookup, added, without, replaced}
use Rattle.keyed_table.proofs.Lookups.{by_test, adding, removing, replacing}
use Rattle.ledger.specs.Ledger.{Ledger, culm_key, grade_at, culm_at, at, raised, dropped, struck, moved_by, on_rack, held_by, is_held, is_standing}
use Rattle.ledger.specs.Orders.{Order}
use Rattle.ledger.specs.Orders.Order.{define_grade, define_class, add_culm, scrap_culm, open_ticket, check_out, check_in, hold, free, judge, set_member, drop_ticket, strike, load, judge_without, look_culm, look_member, look_counts}
use Rattle.ledger.specs.Runs.{Addition, addition_of, scraps, one_if, order_in, added_by, scrapped_by, of_number, addition_in}
use Rattle.ledger.specs.Table.{checks_of, done_by, changed_culm, new_culm, refusal_of, next_of}
use Rattle.ledger.specs.declared.culm.Culm.{Culm}
use Rattle.ledger.specs.declared.culm.Place.{Place}
use Rattle.ledger.specs.declared.culm.Place.TheVariants.{Rack, Held, Standing}
use Rattle.ledger.proofs.Kept.{Pass, Good, is_present, is_so_lem}
use Rattle.ledger.proofs.Numbered.{no_none, inside, lookup_key, count_added, count_without, count_map}
use Rattle.ledger.proofs.Strength.{refused_changes_nothing, accepted_passes, accepted_does}

-- every culm is on the rack, held or standing
one_place : (c : Culm) (p : Place) → cond (on_rack (at p c)) 1 0 + cond (is_held (at p c)) 1 0 + cond (is_standing (at p c)) 1 0 ≡ 1
one_place c Rack = refl
one_place c (Held m) = refl
one_place c (Standing m) = refl

pub places_add_up : (cs : List Culm) → count_by on_rack cs + count_by is_held cs + count_by is_standing cs ≡ length cs
places_add_up [] = refl
places_add_up (c ∷ cs) =
    omega (
      arith,
      one_place c c.place,
      sum_by-cons (λ x. cond (on_rack x) 1 0) c cs,
      sum_by-cons (λ x. cond (is_held x) 1 0) c cs,
      sum_by-cons (λ x. cond (is_standing x) 1 0) c cs,
      places_add_up cs,
    )

-- how many culms there are after an accepted order
module _ (rule : Rule) (l : Ledger) (h : Good rule l) where
  changed_count : (f : Culm → Culm) (o : Option Culm) → length (changed_culm f o l.culms) ≡ length l.culms
  changed_count f None = refl
  changed_count f (Some c) = count_map culm_key (λ y. cond (eqb (culm_key y) (culm_key (f c))) (f c) y) l.culms

  done_count : (o : Order) → Pass (checks_of rule l o) → length (done_by l o).culms + scraps o ≡ length l.culms + one_if (addition_of o)
  done_count (add_culm n g x) p =
      let d = is_present (grade_at l g) p.0 in
      let e : length (new_culm n g x (grade_at l g) l.culms) ≡ length l.culms + 1 =
      ap (λ w. length (new_culm n g x w l.culms)) d.1 ∙ count_added culm_key _ l.culms in
      omega arith
  done_count (scrap_culm n) p =
      let r = is_so_lem on_rack (culm_at l n) p.1.0 in
      omega (arith, count_without culm_key n r.0 l.culms h.apart r.1)
  done_count (hold m n) p = omega (arith, changed_count (at (Held m)) (culm_at l n))
  done_count (free m n) p = omega (arith, changed_count (at Rack) (culm_at l n))
  done_count (set_member m) p = omega (arith, count_map culm_key (moved_by (raised m)) l.culms)
  done_count (drop_ticket m) p = omega (arith, count_map culm_key (moved_by (dropped m)) l.culms)
  done_count (strike m) p = omega (arith, count_map culm_key (moved_by (struck m)) l.culms)
  done_count (define_grade g x) p = refl
  done_count (define_class s x) p = refl
  done_count (open_ticket m x s d f) p = refl
  done_count (check_out m) p = refl
  done_count (check_in m) p = refl
  done_count (judge m) p = refl
  done_count (load m d f) p = refl
  done_count (judge_without m n) p = refl
  done_count (look_culm n) p = refl
  done_count (look_member m) p = refl
  done_count look_counts p = refl

  abbrev accepted_in : Result Order MeasureFault → Option Order
  accepted_in o = cond (is_err (refusal_of rule l o)) None (order_in o)

  pub step_count : (o : Result Order MeasureFault)
      → length (next_of rule l o).culms + scrapped_by (accepted_in o) ≡ length l.culms + added_by (accepted_in o)
  step_count (Err f) = refl
  step_count (Ok o) =
      by_test (is_err (refusal_of rule l (Ok o)))
      (λ t.
      let none : accepted_in (Ok o) ≡ None = cond-true (is_err (refusal_of rule l (Ok o))) None (Some o) t in
      let same : next_of rule l (Ok o) ≡ l = refused_changes_nothing rule l (Ok o) t in
      omega (arith, ap (λ z. length z.culms) same, ap scrapped_by none, ap added_by none))
      (λ t.
      let some : accepted_in (Ok o) ≡ Some o = cond-false (is_err (refusal_of rule l (Ok o))) None (Some o) t in
      let does : next_of rule l (Ok o) ≡ done_by l o = accepted_does rule l o t in
      omega (arith, ap (λ z. length z.culms) does, ap scrapped_by some, ap added_by some, done_count o (accepted_passes rule l o t)))

-- the addition that a culm came from
abbrev pub origin : ℕ → Culm → Addition
origin n c = record { number = n; grade = c.grade; readings = c.readings }

-- what was said of the culm n is what the ledger has of it
abbrev pub Traced : ℕ → List Culm → Option Addition → Type 0
Traced n cs was = (c : Culm) → lookup culm_key n cs ≡ Some c → was ≡ Some (origin n c)

-- a change of each culm that keeps number, grade and readings
module _ (n : ℕ) (f : Culm → Culm) (keeps : (c : Culm) → (f c).number ≡ c.number) (same : (c : Culm) → origin n (f c) ≡ origin n c) where
  found_before : (cs : List Culm) (c : Culm) → lookup culm_key n (map f cs) ≡ Some c → (b : Culm) × (lookup culm_key n cs ≡ Some b) × (origin n c ≡ origin n b)
  found_before [] c e = no_none (sym e)
  found_before (b ∷ bs) c e =
      by_test (eqb b.number n)
      (λ t.
      let u : eqb (f b).number n ≡ true = ap (λ k. eqb k n) (keeps b) ∙ t in
      let is : f b ≡ c = inside (sym (cond-true (eqb (f b).number n) (Some (f b)) (lookup culm_key n (map f bs)) u) ∙ e) in
      (b, cond-true (eqb b.number n) (Some b) (lookup culm_key n bs) t, ap (origin n) (sym is) ∙ same b))
      (λ t.
      let u : eqb (f b).number n ≡ false = ap (λ k. eqb k n) (keeps b) ∙ t in
      let r = found_before bs c (sym (cond-false (eqb (f b).number n) (Some (f b)) (lookup culm_key n (map f bs)) u) ∙ e) in
      (r.0, cond-false (eqb b.number n) (Some b) (lookup culm_key n bs) t ∙ r.1, r.2))

  traced_map : (cs : List Culm) (was : Option Addition) → Traced n cs was → Traced n (map f cs) was
  traced_map cs was t c e = let b = found_before cs c e in t b.0 b.1 ∙ ap Some (sym b.2)

module _ (rule : Rule) (l : Ledger) (h : Good rule l) (n : ℕ) (was : Option Addition) (t : Traced n l.culms was) where
  -- one culm in another place
  traced_moved : (to : Place) (k : ℕ) (r : Culm) → culm_at l k ≡ Some r → Traced n (changed_culm (at to) (culm_at l k) l.culms) was
  traced_moved to k r e =
      subst (λ o. Traced n (changed_culm (at to) o l.culms) was) (sym e)
      (λ c f.
      let own : lookup culm_key r.number l.culms ≡ Some r = ap (λ j. lookup culm_key j l.culms) (lookup_key culm_key k l.culms r e) ∙ e in
      ⊎_elim
      (λ is.
      let here : lookup culm_key n (replaced culm_key (at to r) l.culms) ≡ Some (at to r) =
      ap (λ j. lookup culm_key j (replaced culm_key (at to r) l.culms)) is ∙ (replacing culm_key (at to r) l.culms).found r own in
      let same : at to r ≡ c = inside (sym here ∙ f) in
      t r (ap (λ j. lookup culm_key j l.culms) is ∙ own) ∙ ap (λ z. Some (origin n z)) same)
      (λ other. t c (sym ((replacing culm_key (at to r) l.culms).others n other) ∙ f))
      (cases_eq n r.number))

  done_traced : (o : Order) → Pass (checks_of rule l o) → Traced n (done_by l o).culms (of_number n (addition_of o) was)
  done_traced (add_culm k g x) p =
      let d = is_present (grade_at l g) p.0 in
      let a : Culm = record { number = k; grade = g; strengths = d.0; readings = x; place = Rack } in
      subst (λ w. Traced n (new_culm k g x w l.culms) (cond (eqb k n) (Some (record { number = k; grade = g; readings = x })) was)) (sym d.1)
      (λ c f.
      ⊎_elim
      (λ is.
      let here : lookup culm_key n (added culm_key a l.culms) ≡ Some a =
      ap (λ j. lookup culm_key j (added culm_key a l.culms)) is ∙ (adding culm_key a l.culms).found in
      let same : a ≡ c = inside (sym here ∙ f) in
      cond-true (eqb k n) _ _ (eq-eqb k n (sym is)) ∙ ap (λ j. Some (record { number = j; grade = g; readings = x })) (sym is) ∙ ap (λ z. Some (origin n z)) same)
      (λ other. cond-false (eqb k n) _ _ (ne_eqb k n (λ s. other (sym s))) ∙ t c (sym ((adding culm_key a l.culms).others n other) ∙ f))
      (cases_eq n k))
  done_traced (scrap_culm k) p = λ c f.
      ⊎_elim
      (λ is. no_none (sym f ∙ ap (λ j. lookup culm_key j (without culm_key k l.culms)) is ∙ (removing culm_key k l.culms).gone))
      (λ other. t c (sym ((removing culm_key k l.culms).others n other) ∙ f))
      (cases_eq n k)
  done_traced (hold m k) p = let r = is_so_lem on_rack (culm_at l k) p.1.1.1.0 in traced_moved (Held m) k r.0 r.1
  done_traced (free m k) p = let r = is_so_lem (held_by m) (culm_at l k) p.1.1.1.0 in traced_moved Rack k r.0 r.1
  done_traced (set_member m) p = traced_map n (moved_by (raised m)) (λ c. refl) (λ c. refl) l.culms was t
  done_traced (drop_ticket m) p = traced_map n (moved_by (dropped m)) (λ c. refl) (λ c. refl) l.culms was t
  done_traced (strike m) p = traced_map n (moved_by (struck m)) (λ c. refl) (λ c. refl) l.culms was t
  done_traced (define_grade g x) p = t
  done_traced (define_class s x) p = t
  done_traced (open_ticket m x s d f) p = t
  done_traced (check_out m) p = t
  done_traced (check_in m) p = t
  done_traced (judge m) p = t
  done_traced (load m d f) p = t
  done_traced (judge_without m k) p = t
  done_traced (look_culm k) p = t
  done_traced (look_member m) p = t
  done_traced look_counts p = t

  pub step_traced : (o : Result Order MeasureFault) → Traced n (next_of rule l o).culms (addition_in n (accepted_in rule l h o) was)
  step_traced (Err f) = t
  step_traced (Ok o) =
      by_test (is_err (refusal_of rule l (Ok o)))
      (λ e.
      let none : accepted_in rule l h (Ok o) ≡ None = cond-true (is_err (refusal_of rule l (Ok o))) None (Some o) e in
      let same : next_of rule l (Ok o) ≡ l = refused_changes_nothing rule l (Ok o) e in
      subst (λ z. Traced n (next_of rule l (Ok o)).culms (addition_in n z was)) (sym none) (subst (λ z. Traced n z.culms was) (sym same) t))
      (λ e.
      let some : accepted_in rule l h (Ok o) ≡ Some o = cond-false (is_err (refusal_of rule l (Ok o))) None (Some o) e in
      let does : next_of rule l (Ok o) ≡ done_by l o = accepted_does rule l o e in
      subst (λ z. Traced n (next_of rule l (Ok o)).culms (addition_in n z was)) (sym some)
      (subst (λ z. Traced n z.culms (of_number n (addition_of o) was)) (sym does) (done_traced o (accepted_passes rule l o e))))
