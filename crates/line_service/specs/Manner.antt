-- How lines are answered one by one, and a run over a list of lines. Assumes nothing.
use Rattle.std.specs.Prelude.{◌≡◌, ℕ, ◌<◌, cond, List, [], ◌∷◌, ◌++◌, length, nat_lt}
use Rattle.std.proofs.Common.{sym, ◌∙◌}
use Rattle.std.proofs.lemmas.Bool.{lt-ltb, cond-true}

-- how many bytes a line may have, byte 10 not counted
abbrev pub line_limit : ℕ
line_limit = 80

-- The states, the state after a line, the bytes of the answer to it, and for how many bytes room may be asked before an answer.
-- Lines longer than the limit are all answered alike, whatever they hold.
pub record Manner : Type 1 where
  pub State : Type 0
  pub next : State → List ℕ → State
  pub said : State → List ℕ → List ℕ
  pub room : ℕ
  pub long_next : (s : State) (l k : List ℕ) → line_limit < length l → line_limit < length k → next s l ≡ next s k
  pub long_said : (s : State) (l k : List ℕ) → line_limit < length l → line_limit < length k → said s l ≡ said s k

-- x where the line is too long, else y
abbrev pub if_too_long : {X : Type 0} → List ℕ → X → X → X
if_too_long line x y = cond (nat_lt line_limit (length line)) x y

-- a line that is too long takes x
pub too_long : {X : Type 0} (l : List ℕ) (x y : X) → line_limit < length l → if_too_long l x y ≡ x
too_long l x y h = cond-true (nat_lt line_limit (length l)) x y (lt-ltb line_limit (length l) h)

-- the manner that answers as `next` and `said`, but refuses a line that is too long, which leaves the state as it is
abbrev pub refusing : List ℕ → ℕ → (S : Type 0) → (S → List ℕ → S) → (S → List ℕ → List ℕ) → Manner
refusing refusal room S next said = record {
  State = S;
  next = λ s l. if_too_long l s (next s l);
  said = λ s l. if_too_long l refusal (said s l);
  room = room;
  long_next = λ s l k h j. too_long l s (next s l) h ∙ sym (too_long k s (next s k) j);
  long_said = λ s l k h j. too_long l refusal (said s l) h ∙ sym (too_long k refusal (said s k) j);
}

-- the state after the lines
abbrev pub run : (m : Manner) → m.State → List (List ℕ) → m.State
run m s [] = s
run m s (l ∷ ls) = run m (m.next s l) ls

-- all bytes of the answers to the lines
abbrev pub answers : (m : Manner) → m.State → List (List ℕ) → List ℕ
answers m s [] = []
answers m s (l ∷ ls) = m.said s l ++ answers m (m.next s l) ls
