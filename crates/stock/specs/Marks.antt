-- One row with its mark set or cleared. Assumes nothing.
use Rattle.std.specs.Prelude.{◌≡◌, ℕ, zero, suc, Bool, false, List, [], ◌∷◌}
use Rattle.stock.specs.Rows.{marked}
use Rattle.stock.specs.declared.row.CulmRow.{CulmRow}

-- the rows, with the mark of the row i at b
abbrev pub with_mark : Bool → ℕ → List CulmRow → List CulmRow
with_mark b i [] = []
with_mark b zero (r ∷ rs) = marked b r ∷ rs
with_mark b (suc i) (r ∷ rs) = r ∷ with_mark b i rs

-- the row i, where there is one, is not set aside
abbrev pub ClearAt : ℕ → List CulmRow → Type 0
ClearAt i [] = Unit {0}
ClearAt zero (r ∷ rs) = r.aside ≡ false
ClearAt (suc i) (r ∷ rs) = ClearAt i rs
