-- The lines of an input. Assumes nothing.
use Rattle.std.specs.Prelude.{◌≡◌, ℕ, ◌<◌, cond, List, [], ◌∷◌, ◌++◌, length, ◌==◌, ◌≢◌, slice_index, slice_index_or}
use Rattle.std.specs.List.{flat_map}

-- the byte that ends a line
abbrev pub line_end : ℕ
line_end = 10

-- the lines that the bytes end, where `line` stands before them
abbrev pub ended : List ℕ → List ℕ → List (List ℕ)
ended line [] = []
ended line (b ∷ bs) = cond (b == line_end) (line ∷ ended [] bs) (ended (line ++ (b ∷ [])) bs)

-- the line that they leave unended
abbrev pub unended : List ℕ → List ℕ → List ℕ
unended line [] = line
unended line (b ∷ bs) = cond (b == line_end) (unended [] bs) (unended (line ++ (b ∷ [])) bs)

-- the line that the end of the input ends, if a byte stands after the last byte 10
abbrev pub last_line : List ℕ → List (List ℕ)
last_line [] = []
last_line (b ∷ bs) = (b ∷ bs) ∷ []

-- a line ends at byte 10 or at the end of the input; after a last byte 10 no line follows
abbrev pub lines_of : List ℕ → List (List ℕ)
lines_of input = ended [] input ++ last_line (unended [] input)

-- no byte 10 stands in it
abbrev pub Unbroken : List ℕ → Type 0
Unbroken line = (k : ℕ) → k < length line → slice_index line k ≢ line_end

-- the lines one behind another, each with the byte 10 that ends it
abbrev pub closed : List (List ℕ) → List ℕ
closed lines = flat_map (λ line. line ++ (line_end ∷ [])) lines

-- the closed lines and then the rest make up the input, and no byte 10 stands in any of them
pub record Parted (input : List ℕ) (lines : List (List ℕ)) (rest : List ℕ) : Type 0 where
  pub whole : closed lines ++ rest ≡ input
  pub lines_unbroken : (i : ℕ) → i < length lines → Unbroken (slice_index_or lines i [])
  pub rest_unbroken : Unbroken rest

-- what `ended` and `unended` come to: they part the input so, and no other lines and rest do
pub record Cut (input : List ℕ) : Type 0 where
  pub parted : Parted input (ended [] input) (unended [] input)
  pub only : (lines : List (List ℕ)) (rest : List ℕ) → Parted input lines rest → (ended [] input ≡ lines) × (unended [] input ≡ rest)
