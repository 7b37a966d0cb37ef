-- Where the lines of an input end.
use Rattle.std.proofs.Common.{◌≡◌, ℕ, zero, suc, ◌<◌, ◌≤◌, Bool, true, false, cond, eqb, List, [], ◌∷◌, ◌++◌, length, get_or, sym, refl, ap, ◌∙◌, ⊎_elim, arith, length-append}
use Rattle.std.proofs.lemmas.List.{append_assoc, append-nil, get_or_append_left, get_or_push}
use Rattle.std.proofs.lemmas.Bool.{eqb-true, eqb-false, cases_lt}
use Rattle.line_service.specs.Lines.{line_end, ended, unended, closed, Unbroken, Parted, Cut}
use Rattle.line_service.proofs.Lines.{ended_append, unended_append, plain_ended, plain_unended}

unbroken_none : Unbroken []
unbroken_none k lt e = let none : ⊥ = omega arith in none

unbroken_push : (l : List ℕ) (b : ℕ) → Unbroken l → (b ≡ line_end → ⊥) → Unbroken (l ++ (b ∷ []))
unbroken_push l b u h k lt e =
    ⊎_elim
    (λ (w : k < length l). u k w (sym (get_or_append_left l (b ∷ []) 0 k w) ∙ e))
    (λ (w : length l ≤ k). let at : length l ≡ k = omega (arith, length-append l (b ∷ [])) in h (sym (get_or_push l b 0 k at) ∙ e))
    (cases_lt k (length l))

-- one more line before the others
before_others : (l : List ℕ) (ls : List (List ℕ)) → Unbroken l → ((i : ℕ) → i < length ls → Unbroken (get_or ls i [])) → (i : ℕ) → i < length (l ∷ ls) → Unbroken (get_or (l ∷ ls) i [])
before_others l ls u h zero lt = u
before_others l ls u h (suc i) lt = h i (omega arith)

-- bytes behind the line that stands before them
parted_behind : (l bs : List ℕ) → Unbroken l → Parted (l ++ bs) (ended l bs) (unended l bs)
parted_behind l [] u = record { whole = sym (append-nil l); lines_unbroken = λ i lt. unbroken_none; rest_unbroken = u }
parted_behind l (b ∷ bs) u =
    let step : (v : Bool) → eqb b line_end ≡ v → Parted (l ++ (b ∷ bs)) (cond v (l ∷ ended [] bs) (ended (l ++ (b ∷ [])) bs)) (cond v (unended [] bs) (unended (l ++ (b ∷ [])) bs)) =
    λ v. elim v as (λ v. eqb b line_end ≡ v → Parted (l ++ (b ∷ bs)) (cond v (l ∷ ended [] bs) (ended (l ++ (b ∷ [])) bs)) (cond v (unended [] bs) (unended (l ++ (b ∷ [])) bs))) [
      | true ↦ λ e.
          let rest = parted_behind [] bs unbroken_none in
          record {
            whole = append_assoc (l ++ (line_end ∷ [])) (closed (ended [] bs)) (unended [] bs) ∙ ap (λ r. (l ++ (line_end ∷ [])) ++ r) rest.whole ∙ append_assoc l (line_end ∷ []) bs ∙ ap (λ c. l ++ (c ∷ bs)) (sym (eqb-true b line_end e));
            lines_unbroken = before_others l (ended [] bs) u rest.lines_unbroken;
            rest_unbroken = rest.rest_unbroken;
          }
      | false ↦ λ e.
          let rest = parted_behind (l ++ (b ∷ [])) bs (unbroken_push l b u (eqb-false b line_end e)) in
          record { whole = rest.whole ∙ append_assoc l (b ∷ []) bs; lines_unbroken = rest.lines_unbroken; rest_unbroken = rest.rest_unbroken }
    ] in
    step (eqb b line_end) refl

-- one line, byte 10, and more
ended_line : (l more : List ℕ) → Unbroken l → ended [] (l ++ (line_end ∷ more)) ≡ l ∷ ended [] more
ended_line l more u =
    ended_append [] l (line_end ∷ more) ∙ ap (λ r. r ++ ended (unended [] l) (line_end ∷ more)) (plain_ended [] l u) ∙ ap (λ r. r ∷ ended [] more) (plain_unended [] l u)

closed_cut : (ls : List (List ℕ)) (rest : List ℕ) → ((i : ℕ) → i < length ls → Unbroken (get_or ls i [])) → Unbroken rest → (ended [] (closed ls ++ rest) ≡ ls) × (unended [] (closed ls ++ rest) ≡ rest)
closed_cut [] rest h u = (plain_ended [] rest u, plain_unended [] rest u)
closed_cut (l ∷ ls) rest h u =
    let more = closed ls ++ rest in
    let others = closed_cut ls rest (λ i lt. h (suc i) (omega arith)) u in
    let bytes : closed (l ∷ ls) ++ rest ≡ l ++ (line_end ∷ more) = append_assoc (l ++ (line_end ∷ [])) (closed ls) rest ∙ append_assoc l (line_end ∷ []) more in (
      ap (ended []) bytes ∙ ended_line l more (h 0 (omega arith)) ∙ ap (λ r. l ∷ r) others.0,
      ap (unended []) bytes ∙ unended_append [] l (line_end ∷ more) ∙ others.1,
    )

pub cut : (input : List ℕ) → Cut input
cut input = record {
  parted = parted_behind [] input unbroken_none;
  only = λ lines rest p.
      let same = closed_cut lines rest p.lines_unbroken p.rest_unbroken in
      (ap (ended []) (sym p.whole) ∙ same.0, ap (unended []) (sym p.whole) ∙ same.1);
}
