-- A line with a tab in it.
use Rattle.std.proofs.Common.{◌≡◌, ℕ, ◌+◌, ◌-◌, ◌<◌, ◌≢◌, not, eqb, List, ◌∷◌, length, get_or, take, drop, sym, ap, ◌∙◌, arith}
use Rattle.std.specs.List.{position_or_len}
use Rattle.std.proofs.lemmas.List.{take_rest}
use Rattle.std.proofs.lemmas.List.Sums.{prefix_len_is}
use Rattle.std.proofs.lemmas.List.Splits.{slice_split_first}
use Rattle.std.proofs.lemmas.Bool.{ne_eqb}
use Rattle.line_fields.specs.Cuts.{fields_of}

pub cut_at : (line : List ℕ) (i : ℕ) → i < length line → ((k : ℕ) → k < i → get_or line k 0 ≢ 9) → get_or line i 0 ≡ 9 → fields_of line ≡ take i line ∷ fields_of (take (length line - (i + 1)) (drop (i + 1) line))
cut_at line i h before at =
    let first : position_or_len (λ b. eqb b 9) line ≡ i =
    prefix_len_is (λ b. not (eqb b 9)) line i 0 (omega arith) (λ k lt. ap not (ne_eqb (get_or line k 0) 9 (before k lt))) (λ _. ap (λ b. not (eqb b 9)) at) in
    slice_split_first (λ b. eqb b 9) line 0 (omega arith) ∙ ap (λ n. take n line ∷ fields_of (drop (n + 1) line)) first ∙ ap (λ rest. take i line ∷ fields_of rest) (sym (take_rest line (i + 1)))
