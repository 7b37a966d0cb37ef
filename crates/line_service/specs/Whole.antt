-- An input that comes in chunks, and the answers to it. Assumes nothing.
use Rattle.std.specs.Prelude.{◌≡◌, ℕ, List, [], ◌++◌, take, Ok, Err, Result}
use Rattle.std.specs.Borrow.{Bor}
use Rattle.std.specs.List.{flat_map}
use Rattle.line_service.specs.Lines.{ended, lines_of}
use Rattle.line_service.specs.Manner.{Manner, answers}

-- the bytes of all chunks, one behind another
abbrev pub glued : List (Bor (List ℕ)) → List ℕ
glued chunks = flat_map (λ c. c.now) chunks

-- behind `before` stand the answers to every line of the input; where memory ran out, those to the lines ended in a front of it
abbrev pub Answered : {T E : Type 0} (m : Manner) → m.State → List ℕ → List ℕ → List ℕ → Result T E → Type 0
Answered m s input before after (Ok _) = after ≡ before ++ answers m s (lines_of input)
Answered m s input before after (Err _) = (n : ℕ) × (after ≡ before ++ answers m s (ended [] (take n input)))
