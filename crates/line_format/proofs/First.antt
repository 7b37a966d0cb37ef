use Rattle.std.proofs.Common.{◌≡◌, ℕ, zero, suc, ◌+◌, List, [], ◌∷◌, length, refl, ap, arith}
use Rattle.line_format.specs.Lines.{field, placed_from, placed_first}

-- as many as there are
pub all_first : (n k : ℕ) (texts : List (List ℕ)) → length texts ≡ n → placed_from k texts ≡ placed_first n k texts
all_first zero k [] h = refl
all_first zero k (text ∷ texts) h = absurd (omega arith)
all_first (suc n) k [] h = absurd (omega arith)
all_first (suc n) k (text ∷ texts) h = ap (λ x. field k text ∷ x) (all_first n (k + 1) texts (omega arith))
