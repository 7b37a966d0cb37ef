-- Lines of bytes that stand one behind another, and lines of which only the front is known.
use Rattle.std.proofs.Common.{◌≡◌, ℕ, zero, suc, ◌<◌, ◌≤◌, true, false, cond, eqb, List, [], ◌∷◌, ◌++◌, length, take, sym, refl, ap, ◌∙◌, ⊎_elim, arith, length-take}
use Rattle.std.proofs.lemmas.List.{append_assoc, append-nil, take_all}
use Rattle.std.proofs.lemmas.Bool.{cases_lt, cond-false, ne_eqb}
use Rattle.line_service.specs.Manner.{Manner, run, answers}
use Rattle.line_service.specs.Front.{front_of}
use Rattle.line_service.specs.Lines.{line_end, ended, unended, Unbroken}

-- bytes behind bytes
pub ended_append : (l xs ys : List ℕ) → ended l (xs ++ ys) ≡ ended l xs ++ ended (unended l xs) ys
ended_append l [] ys = refl
ended_append l (x ∷ xs) ys =
    elim (eqb x line_end) as (λ v. cond v (l ∷ ended [] (xs ++ ys)) (ended (l ++ (x ∷ [])) (xs ++ ys)) ≡ cond v (l ∷ ended [] xs) (ended (l ++ (x ∷ [])) xs) ++ ended (cond v (unended [] xs) (unended (l ++ (x ∷ [])) xs)) ys)
    [ true ↦ ap (λ x. l ∷ x) (ended_append [] xs ys) | false ↦ ended_append (l ++ (x ∷ [])) xs ys ]

pub unended_append : (l xs ys : List ℕ) → unended l (xs ++ ys) ≡ unended (unended l xs) ys
unended_append l [] ys = refl
unended_append l (x ∷ xs) ys =
    elim (eqb x line_end) as (λ v. cond v (unended [] (xs ++ ys)) (unended (l ++ (x ∷ [])) (xs ++ ys)) ≡ unended (cond v (unended [] xs) (unended (l ++ (x ∷ [])) xs)) ys)
    [ true ↦ unended_append [] xs ys | false ↦ unended_append (l ++ (x ∷ [])) xs ys ]

-- bytes with no byte 10 among them end no line
pub plain_ended : (l xs : List ℕ) → Unbroken xs → ended l xs ≡ []
plain_ended l [] h = refl
plain_ended l (x ∷ xs) h =
    let no : eqb x line_end ≡ false = ne_eqb x line_end (h 0 (omega arith)) in
    cond-false (eqb x line_end) (l ∷ ended [] xs) (ended (l ++ (x ∷ [])) xs) no ∙ plain_ended (l ++ (x ∷ [])) xs (λ k lt. h (suc k) (omega arith))

pub plain_unended : (l xs : List ℕ) → Unbroken xs → unended l xs ≡ l ++ xs
plain_unended l [] h = sym (append-nil l)
plain_unended l (x ∷ xs) h =
    let no : eqb x line_end ≡ false = ne_eqb x line_end (h 0 (omega arith)) in
    cond-false (eqb x line_end) (unended [] xs) (unended (l ++ (x ∷ [])) xs) no ∙ plain_unended (l ++ (x ∷ [])) xs (λ k lt. h (suc k) (omega arith)) ∙ append_assoc l (x ∷ []) xs

-- a front of a front
pub take_front : (n : ℕ) (u x : List ℕ) → take n (take n u ++ x) ≡ take n (u ++ x)
take_front zero u x = refl
take_front (suc n) [] x = refl
take_front (suc n) (a ∷ u) x = ap (λ r. a ∷ r) (take_front n u x)

pub front_more : (u v x : List ℕ) → front_of u ≡ front_of v → front_of (u ++ x) ≡ front_of (v ++ x)
front_more u v x e = sym (take_front 81 u x) ∙ ap (λ r. front_of (r ++ x)) e ∙ take_front 81 v x

module _ (m : Manner) where
  pub run_append : (s : m.State) (xs ys : List (List ℕ)) → run m s (xs ++ ys) ≡ run m (run m s xs) ys
  run_append s [] ys = refl
  run_append s (x ∷ xs) ys = run_append (m.next s x) xs ys

  pub answers_append : (s : m.State) (xs ys : List (List ℕ)) → answers m s (xs ++ ys) ≡ answers m s xs ++ answers m (run m s xs) ys
  answers_append s [] ys = refl
  answers_append s (x ∷ xs) ys =
      ap (λ r. m.said s x ++ r) (answers_append (m.next s x) xs ys) ∙ sym (append_assoc (m.said s x) (answers m (m.next s x) xs) (answers m (run m (m.next s x) xs) ys))

  -- two lines with the same first 81 bytes are the same, or both are too long
  alike : {X : Type 0} (f : List ℕ → X) → ((l k : List ℕ) → 80 < length l → 80 < length k → f l ≡ f k) → (u v : List ℕ) → front_of u ≡ front_of v → f u ≡ f v
  alike f h u v e =
      ⊎_elim
      (λ lt. let w : 80 < length v = omega (arith, ap length e, length-take 81 u, length-take 81 v) in h u v lt w)
      (λ le.
      let a : length u ≤ 81 = omega arith in
      let b : length v ≤ 81 = omega (arith, ap length e, length-take 81 u, length-take 81 v) in
      ap f (sym (take_all 81 u a) ∙ e ∙ take_all 81 v b))
      (cases_lt 80 (length u))

  pub same_next : (s : m.State) (u v : List ℕ) → front_of u ≡ front_of v → m.next s u ≡ m.next s v
  same_next s = alike (m.next s) (m.long_next s)

  pub same_said : (s : m.State) (u v : List ℕ) → front_of u ≡ front_of v → m.said s u ≡ m.said s v
  same_said s = alike (m.said s) (m.long_said s)

  -- only the front of the line that stands before the bytes matters
  pub same_run : (s : m.State) (u v bs : List ℕ) → front_of u ≡ front_of v → run m s (ended u bs) ≡ run m s (ended v bs)
  same_run s u v [] e = refl
  same_run s u v (b ∷ bs) e =
      elim (eqb b line_end) as (λ t. run m s (cond t (u ∷ ended [] bs) (ended (u ++ (b ∷ [])) bs)) ≡ run m s (cond t (v ∷ ended [] bs) (ended (v ++ (b ∷ [])) bs)))
      [ true ↦ ap (λ t. run m t (ended [] bs)) (same_next s u v e) | false ↦ same_run s (u ++ (b ∷ [])) (v ++ (b ∷ [])) bs (front_more u v (b ∷ []) e) ]

  pub same_answers : (s : m.State) (u v bs : List ℕ) → front_of u ≡ front_of v → answers m s (ended u bs) ≡ answers m s (ended v bs)
  same_answers s u v [] e = refl
  same_answers s u v (b ∷ bs) e =
      elim (eqb b line_end) as (λ t. answers m s (cond t (u ∷ ended [] bs) (ended (u ++ (b ∷ [])) bs)) ≡ answers m s (cond t (v ∷ ended [] bs) (ended (v ++ (b ∷ [])) bs))) [
        | true ↦ ap (λ x. x ++ answers m (m.next s u) (ended [] bs)) (same_said s u v e) ∙ ap (λ t. m.said s v ++ answers m t (ended [] bs)) (same_next s u v e)
        | false ↦ same_answers s (u ++ (b ∷ [])) (v ++ (b ∷ [])) bs (front_more u v (b ∷ []) e)
      ]

pub same_unended : (u v bs : List ℕ) → front_of u ≡ front_of v → front_of (unended u bs) ≡ front_of (unended v bs)
same_unended u v [] e = e
same_unended u v (b ∷ bs) e =
    elim (eqb b line_end) as (λ t. front_of (cond t (unended [] bs) (unended (u ++ (b ∷ [])) bs)) ≡ front_of (cond t (unended [] bs) (unended (v ++ (b ∷ [])) bs)))
    [ true ↦ refl | false ↦ same_unended (u ++ (b ∷ [])) (v ++ (b ∷ [])) bs (front_more u v (b ∷ []) e) ]
