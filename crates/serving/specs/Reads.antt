-- The lines that a read of the input ends. Assumes nothing.
use Rattle.std.specs.Prelude.{ℕ, List, [], ◌∷◌}
use Rattle.line_service.specs.Lines.{ended, last_line}

-- behind the front of a line; a read of no bytes is the end of the input
abbrev pub read_lines : List ℕ → List ℕ → List (List ℕ)
read_lines front [] = last_line front
read_lines front (b ∷ bs) = ended front (b ∷ bs)
