-- A mark that is set and cleared leaves the rows as they were. Assumes nothing.
use Rattle.std.proofs.Common.{◌≡◌, ℕ, zero, suc, ◌<◌, Bool, true, false, List, [], ◌∷◌, length, get_or, set, sym, refl, ap, arith}
use Rattle.stock.specs.Marks.{with_mark, ClearAt}
use Rattle.stock.specs.Rows.{marked}
use Rattle.stock.specs.declared.row.CulmRow.{CulmRow}

pub set_mark : (b : Bool) (rows : List CulmRow) (i : ℕ) (d : CulmRow) → i < length rows → set rows i (marked b (get_or rows i d)) ≡ with_mark b i rows
set_mark b [] i d h = absurd (omega arith)
set_mark b (r ∷ rs) zero d h = refl
set_mark b (r ∷ rs) (suc i) d h = ap (λ z. r ∷ z) (set_mark b rs i d (omega arith))

pub length_mark : (b : Bool) (i : ℕ) (rows : List CulmRow) → length (with_mark b i rows) ≡ length rows
length_mark b i [] = refl
length_mark b zero (r ∷ rs) = refl
length_mark b (suc i) (r ∷ rs) = ap suc (length_mark b i rs)

pub restored : (i : ℕ) (rows : List CulmRow) → ClearAt i rows → with_mark false i (with_mark true i rows) ≡ rows
restored i [] c = refl
restored zero (r ∷ rs) c = ap (λ b. marked b r ∷ rs) (sym c)
restored (suc i) (r ∷ rs) c = ap (λ z. r ∷ z) (restored i rs c)
