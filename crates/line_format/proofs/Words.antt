-- A word by its letters.
use Rattle.std.proofs.Common.{◌≡◌, ℕ, ◌+◌, List, [], ◌∷◌, length, get_or, drop, Some, Ok, None, Option, ap, ◌∙◌, arith}
use Rattle.std.proofs.lemmas.List.{drop_more, drop_all}
use Rattle.std.specs.Option.{ok_or}

-- from a place on, the letters of the word are these
abbrev pub Spells : List ℕ → ℕ → List ℕ → Type 0
Spells word place [] = Unit {0}
Spells word place (letter ∷ letters) = (get_or word place 0 ≡ letter) × Spells word (place + 1) letters

pub spelled : (word letters : List ℕ) (place : ℕ) → length word ≡ place + length letters → Spells word place letters → drop place word ≡ letters
spelled word [] place size s = drop_all place word (omega arith)
spelled word (letter ∷ letters) place size s =
    drop_more word place 0 (omega arith) ∙ ap (λ x. x ∷ drop (place + 1) word) s.0 ∙ ap (λ rest. letter ∷ rest) (spelled word letters (place + 1) (omega arith) s.1)

pub some_of_ok : {T E : Type 0} (o : Option T) (x : T) (e : E) → Ok x ≡ ok_or o e → o ≡ Some x
some_of_ok None x e h = cc
some_of_ok (Some y) x e h = cc
