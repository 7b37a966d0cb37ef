-- What is kept of a line that is not ended yet. Assumes nothing.
use Rattle.std.specs.Prelude.{ℕ, List, take}

-- one byte more than a line may have
abbrev pub kept_length : ℕ
kept_length = 81

-- the first bytes of a line, enough to tell that it is too long
abbrev pub front_of : List ℕ → List ℕ
front_of line = take kept_length line
