-- What a call took in, a byte 10 and some plain bytes on; and all calls so far, one call on.
use Rattle.std.proofs.Common.{◌≡◌, ℕ, ◌+◌, ◌<◌, ◌≤◌, List, [], ◌∷◌, ◌++◌, length, get_or, take, drop, sym, refl, ap, ◌∙◌, arith, take-add}
use Rattle.std.proofs.lemmas.List.{append_assoc, append-nil, length-take-le, take-take, get_or-take}
use Rattle.line_service.specs.Manner.{Manner, run, answers}
use Rattle.line_service.specs.Front.{front_of}
use Rattle.line_service.specs.Lines.{line_end, ended, unended, last_line, Unbroken}
use Rattle.line_service.specs.Feeding.{Took, Joins, Ends}
use Rattle.line_service.proofs.Lines.{ended_append, unended_append, plain_ended, plain_unended, take_front, run_append, answers_append, same_next, same_said, same_run, same_answers, same_unended}

module _ (m : Manner) where
  -- nothing was taken in yet
  pub took_none : (s : m.State) (f o : List ℕ) → f ≡ front_of f → Took m s f [] s f o o
  took_none s f o e = record { state = refl; rest = e; out = sym (append-nil o) }

  pub took_same : {s : m.State} {f bs cs : List ℕ} {t u : m.State} {g h o p q : List ℕ} → Took m s f bs t g o p → cs ≡ bs → u ≡ t → h ≡ g → q ≡ p → Took m s f cs u h o q
  took_same {s = s} {f = f} {o = o} k b e d a = record {
    state = e ∙ k.state ∙ ap (λ r. run m s (ended f r)) (sym b);
    rest = d ∙ k.rest ∙ ap (λ r. front_of (unended f r)) (sym b);
    out = a ∙ k.out ∙ ap (λ r. o ++ answers m s (ended f r)) (sym b);
  }

  -- bytes with no byte 10 among them
  pub took_plain : (s : m.State) (f bs : List ℕ) (t : m.State) (g o p xs : List ℕ) → Unbroken xs → Took m s f bs t g o p → Took m s f (bs ++ xs) t (front_of (g ++ xs)) o p
  took_plain s f bs t g o p xs h k =
      let lines : ended f (bs ++ xs) ≡ ended f bs = ended_append f bs xs ∙ ap (λ r. ended f bs ++ r) (plain_ended (unended f bs) xs h) ∙ append-nil (ended f bs) in
      let line : unended f (bs ++ xs) ≡ unended f bs ++ xs = unended_append f bs xs ∙ plain_unended (unended f bs) xs h in
      record {
        state = k.state ∙ ap (run m s) (sym lines);
        rest = ap (λ r. front_of (r ++ xs)) k.rest ∙ take_front 81 (unended f bs) xs ∙ ap front_of (sym line);
        out = k.out ∙ ap (λ r. o ++ answers m s r) (sym lines);
      }

  -- some bytes of the rest of a chunk, no byte 10 among them
  pub took_kept : (s : m.State) (f : List ℕ) (t : m.State) (g h o p chunk rest : List ℕ) (past count : ℕ) → rest ≡ drop past chunk → count ≤ length rest → ((k : ℕ) → k < count → get_or rest k 0 ≡ line_end → ⊥) → h ≡ front_of (g ++ take count rest) → Took m s f (take past chunk) t g o p → Took m s f (take (past + count) chunk) t h o p
  took_kept s f t g h o p chunk rest past count behind within plain e k =
      let unbroken : Unbroken (take count rest) =
      λ i lt broken. let early : i < count = omega (arith, length-take-le count rest within) in
      plain i early (sym (get_or-take count rest i 0 early) ∙ broken) in
      took_same (took_plain s f (take past chunk) t g o p (take count rest) unbroken k) (take-add past count chunk ∙ ap (λ r. take past chunk ++ take count r) (sym behind)) refl e refl

  -- byte 10: the line is answered by its front
  pub took_end : (s : m.State) (f bs : List ℕ) (t : m.State) (g o p : List ℕ) → Took m s f bs t g o p → Took m s f (bs ++ (line_end ∷ [])) (m.next t g) [] o (p ++ m.said t g)
  took_end s f bs t g o p k =
      let u = unended f bs in
      let front : front_of g ≡ front_of u = ap front_of k.rest ∙ take-take 81 81 u (omega arith) in
      let lines : ended f (bs ++ (line_end ∷ [])) ≡ ended f bs ++ (u ∷ []) = ended_append f bs (line_end ∷ []) in
      let said : answers m s (ended f bs ++ (u ∷ [])) ≡ answers m s (ended f bs) ++ m.said t g =
      answers_append m s (ended f bs) (u ∷ []) ∙ ap (λ r. answers m s (ended f bs) ++ r) (append-nil (m.said (run m s (ended f bs)) u) ∙ ap (λ r. m.said r u) (sym k.state) ∙ sym (same_said m t g u front)) in
      record {
        state = same_next m t g u front ∙ ap (λ r. m.next r u) k.state ∙ sym (run_append m s (ended f bs) (u ∷ [])) ∙ ap (run m s) (sym lines);
        rest = ap front_of (sym (unended_append f bs (line_end ∷ [])));
        out = ap (λ r. r ++ m.said t g) k.out ∙ append_assoc o (answers m s (ended f bs)) (m.said t g) ∙ ap (λ r. o ++ r) (sym said) ∙ ap (λ r. o ++ answers m s r) (sym lines);
      }

  last_front : (s : m.State) (u : List ℕ) → answers m s (last_line (front_of u)) ≡ answers m s (last_line u)
  last_front s [] = refl
  last_front s (b ∷ bs) = ap (λ r. r ++ []) (same_said m s (front_of (b ∷ bs)) (b ∷ bs) (take-take 81 81 (b ∷ bs) (omega arith)))

  -- one call after others
  pub joins : (s : m.State) (f bs : List ℕ) (t : m.State) (g o p : List ℕ) → Took m s f bs t g o p → Joins m s f bs t g
  joins s f bs t g o p k start line past before said h =
      let u = unended line past in
      let front : front_of f ≡ front_of u = ap front_of h.rest ∙ take-take 81 81 u (omega arith) in
      let lines : ended line (past ++ bs) ≡ ended line past ++ ended u bs = ended_append line past bs in
      let fresh : answers m s (ended f bs) ≡ answers m (run m start (ended line past)) (ended u bs) = same_answers m s f u bs front ∙ ap (λ r. answers m r (ended u bs)) h.state in
      record {
        state = k.state ∙ same_run m s f u bs front ∙ ap (λ r. run m r (ended u bs)) h.state ∙ sym (run_append m start (ended line past) (ended u bs)) ∙ ap (run m start) (sym lines);
        rest = k.rest ∙ same_unended f u bs front ∙ ap front_of (sym (unended_append line past bs));
        out = ap (λ r. r ++ answers m s (ended f bs)) h.out ∙ append_assoc before (answers m start (ended line past)) (answers m s (ended f bs)) ∙ ap (λ r. before ++ r) (ap (λ r. answers m start (ended line past) ++ r) fresh ∙ sym (answers_append m start (ended line past) (ended u bs)) ∙ ap (answers m start) (sym lines));
      }

  -- the end of the input
  pub ends : (s : m.State) (f : List ℕ) → Ends m s f
  ends s f start past before said h =
      let u = unended [] past in
      let last : answers m s (last_line f) ≡ answers m (run m start (ended [] past)) (last_line u) = ap (λ r. answers m s (last_line r)) h.rest ∙ last_front s u ∙ ap (λ r. answers m r (last_line u)) h.state in
      ap (λ r. r ++ answers m s (last_line f)) h.out ∙ append_assoc before (answers m start (ended [] past)) (answers m s (last_line f)) ∙ ap (λ r. before ++ r) (ap (λ r. answers m start (ended [] past) ++ r) last ∙ sym (answers_append m start (ended [] past) (last_line u)))
