-- The fields of a line: what stands between its tabs, byte 9. Assumes nothing.
use Rattle.std.specs.Prelude.{ℕ, List, [], Some, None, Option, ◌==◌}
use Rattle.std.specs.Borrow.{Bor}
use Rattle.std.specs.List.{slice_split}

abbrev pub fields_of : List ℕ → List (List ℕ)
fields_of line = slice_split (λ c. c == 9) line

-- of what is left of a line, if anything is
abbrev pub fields_left : Option (Bor (List ℕ)) → List (List ℕ)
fields_left None = []
fields_left (Some s) = fields_of s.now
