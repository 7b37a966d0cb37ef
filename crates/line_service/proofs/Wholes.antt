-- Chunks one behind another, and the answers to them.
use Rattle.std.proofs.Common.{◌≡◌, ℕ, ◌+◌, ◌<◌, ◌≤◌, false, cond, List, [], ◌∷◌, ◌++◌, length, get_or, take, drop, is_ok, is_err, Ok, Err, Result, sym, refl, ap, ◌∙◌, arith, Bor}
use Rattle.std.proofs.Math.Seq.{take-append-add}
use Rattle.std.proofs.lemmas.List.{append-nil, drop_more, take-append-drop, take_all, take-append-le, take_more}
use Rattle.std.proofs.lemmas.List.Concat.{flat_map-append}
use Rattle.std.proofs.lemmas.Bool.{true≢false}
use Rattle.line_service.specs.declared.service.Stopped.{Stopped}
use Rattle.line_service.specs.Feeding.{part, Took}
use Rattle.line_service.specs.Lines.{ended, last_line, lines_of}
use Rattle.line_service.specs.Manner.{Manner, answers}
use Rattle.line_service.specs.Whole.{glued, Answered}
use Rattle.line_service.proofs.Steps.{ends}

-- one chunk among the others
glued_around : (cs : List (Bor (List ℕ))) (i : ℕ) (d : Bor (List ℕ)) → i < length cs → glued cs ≡ glued (take i cs) ++ ((get_or cs i d).now ++ glued (drop (i + 1) cs))
glued_around cs i d h =
    ap glued (sym (take-append-drop i cs)) ∙ flat_map-append (λ c. c.now) (take i cs) (drop i cs) ∙ ap (λ r. glued (take i cs) ++ glued r) (drop_more cs i d h)

-- the chunks before one, and a front of that one, are a front of the input
pub glued_front : (cs : List (Bor (List ℕ))) (i : ℕ) (d : Bor (List ℕ)) (n : ℕ) → i < length cs → n ≤ length (get_or cs i d).now → glued (take i cs) ++ take n (get_or cs i d).now ≡ take (length (glued (take i cs)) + n) (glued cs)
glued_front cs i d n h le =
    let past = glued (take i cs) in
    let chunk = (get_or cs i d).now in
    sym (ap (take (length past + n)) (glued_around cs i d h) ∙ take-append-add past (chunk ++ glued (drop (i + 1) cs)) n ∙ ap (λ r. past ++ r) (take-append-le n chunk (glued (drop (i + 1) cs)) le))

-- one chunk more
pub glued_more : (cs : List (Bor (List ℕ))) (i : ℕ) (d : Bor (List ℕ)) → i < length cs → glued (take (i + 1) cs) ≡ glued (take i cs) ++ (get_or cs i d).now
glued_more cs i d h =
    ap glued (take_more cs i d h) ∙ flat_map-append (λ c. c.now) (take i cs) (get_or cs i d ∷ []) ∙ ap (λ r. glued (take i cs) ++ r) (append-nil (get_or cs i d).now)

-- a call that did not stop took all of the chunk in
pub part_all : {T : Type 0} (r : Result T Stopped) (chunk : List ℕ) → is_err r ≡ false → part r chunk ≡ chunk
part_all (Ok x) chunk e = take_all (length chunk) chunk (omega arith)
part_all (Err x) chunk e = absurd (true≢false e)

module _ (m : Manner) where
  -- a front of the input was taken in, and no more
  pub answered_front : {T E : Type 0} (begin start : m.State) (input bytes before after : List ℕ) (n : ℕ) (r : Result T E) → is_ok r ≡ false → begin ≡ start → bytes ≡ take n input → after ≡ before ++ answers m begin (ended [] bytes) → Answered m start input before after r
  answered_front begin start input bytes before after n (Ok x) i b f e = absurd (true≢false i)
  answered_front begin start input bytes before after n (Err x) i b f e =
      (n, e ∙ ap (λ s. before ++ answers m s (ended [] bytes)) b ∙ ap (λ r. before ++ answers m start (ended [] r)) f)

  -- the whole input was taken in, and then finished or not
  pub answered_end : {T E : Type 0} (begin start : m.State) (input : List ℕ) (s : m.State) (front before said after : List ℕ) (r : Result T E) → begin ≡ start → Took m begin [] input s front before said → after ≡ said ++ cond (is_ok r) (answers m s (last_line front)) [] → Answered m start input before after r
  answered_end begin start input s front before said after (Ok x) b k e =
      e ∙ ends m s front begin input before said k ∙ ap (λ t. before ++ answers m t (lines_of input)) b
  answered_end {T = T} begin start input s front before said after (Err x) b k e =
      answered_front {T = T} begin start input input before after (length input) (Err x) refl b (sym (take_all (length input) input (omega arith))) (e ∙ append-nil said ∙ k.out)
