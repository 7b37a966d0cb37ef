-- What a line service does with the bytes that are fed to it. Assumes nothing.
use Rattle.std.specs.Prelude.{◌≡◌, ℕ, List, [], ◌++◌, length, take, Ok, Err, Result}
use Rattle.line_service.specs.declared.service.Stopped.{Stopped}
use Rattle.line_service.specs.Front.{front_of}
use Rattle.line_service.specs.Lines.{ended, unended, last_line, lines_of}
use Rattle.line_service.specs.Manner.{Manner, run, answers}

-- how many bytes of the chunk were taken in
abbrev pub count : {T : Type 0} → Result T Stopped → List ℕ → ℕ
count (Ok _) chunk = length chunk
count (Err stopped) chunk = stopped.taken

-- which bytes were taken in
abbrev pub part : {T : Type 0} → Result T Stopped → List ℕ → List ℕ
part r chunk = take (count r chunk) chunk

-- In state s, with `front` kept, the bytes were taken in as if they stood behind that front: the lines that they end were answered
-- behind `before`, which led to state t, and the front of the unended line is kept.
pub record Took (m : Manner) (s : m.State) (front bytes : List ℕ) (t : m.State) (kept before after : List ℕ) : Type 0 where
  pub state : t ≡ run m s (ended front bytes)
  pub rest : kept ≡ front_of (unended front bytes)
  pub out : after ≡ before ++ answers m s (ended front bytes)

-- After any calls that took `past` in, this call makes them one call that took in `past` and then the bytes: it does not matter how
-- an input is cut.
abbrev pub Joins : (m : Manner) (s : m.State) (front bytes : List ℕ) (t : m.State) (kept : List ℕ) → Type 0
Joins m s front bytes t kept =
    (start : m.State) (line past before said : List ℕ) → Took m start line past s front before said → Took m start line (past ++ bytes) t kept before (said ++ answers m s (ended front bytes))

-- Where `past` is the whole input and `said` all that was answered, the answer to the last line makes it the answers to the input's lines.
abbrev pub Ends : (m : Manner) (s : m.State) (front : List ℕ) → Type 0
Ends m s front =
    (start : m.State) (past before said : List ℕ) → Took m start [] past s front before said → said ++ answers m s (last_line front) ≡ before ++ answers m start (lines_of past)
