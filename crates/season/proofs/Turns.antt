-- The turns of a loop that plays calls. Assumes nothing.
use Rattle.std.proofs.Common.{◌≡◌, ℕ, ◌+◌, ◌<◌, ◌≤◌, List, [], ◌∷◌, ◌++◌, length, get_or, drop, Result, sym, ap, ◌∙◌, subst, append_assoc}
use Rattle.std.proofs.lemmas.List.{append-nil, drop_more, drop_all}
use Rattle.design_code.specs.Meaning.{Rule, Meaning, Sound}
use Rattle.ledger.specs.Ledger.{Ledger}
use Rattle.ledger.specs.Runs.{run, answers, Whole}
use Rattle.ledger.specs.Table.{told, next}
use Rattle.ledger.specs.declared.answer.Answer.{Answer}
use Rattle.ledger.specs.declared.call.Call.{Call}
use Rattle.ledger.specs.declared.fault.BookFault.{BookFault}
use Rattle.ledger.proofs.Playing.{whole}

-- one call more
pub one_more : (rule : Rule) (l l' : Ledger) (items items' all : List (Result Answer BookFault)) (end : Ledger) (cs : List Call) (i : ℕ) (d : Call) (a : Result Answer BookFault)
    → i < length cs → a ≡ told rule l (get_or cs i d) → l' ≡ next rule l (get_or cs i d) → items' ≡ items ++ (a ∷ [])
    → items ++ answers rule l (drop i cs) ≡ all → run rule l (drop i cs) ≡ end
    → (items' ++ answers rule l' (drop (i + 1) cs) ≡ all) × (run rule l' (drop (i + 1) cs) ≡ end)
one_more rule l l' items items' all end cs i d a h p q r s t =
    let x = get_or cs i d in
    let rest = drop (i + 1) cs in
    let e : answers rule l (drop i cs) ≡ told rule l x ∷ answers rule (next rule l x) rest = ap (answers rule l) (drop_more cs i d h) in
    let f : run rule l (drop i cs) ≡ run rule (next rule l x) rest = ap (run rule l) (drop_more cs i d h) in
    let g : items' ++ answers rule l' rest ≡ items ++ (a ∷ answers rule l' rest) =
    ap (λ z. z ++ answers rule l' rest) r ∙ append_assoc items (a ∷ []) (answers rule l' rest) in (
      g ∙ (ap (λ z. items ++ (z ∷ answers rule l' rest)) p
          ∙ (ap (λ z. items ++ (told rule l x ∷ answers rule z rest)) q
          ∙ (ap (λ z. items ++ z) (sym e) ∙ s))),
      ap (λ z. run rule z rest) q ∙ (sym f ∙ t),
    )

-- all are played
pub all_played : (rule : Rule) (l : Ledger) (items all : List (Result Answer BookFault)) (end : Ledger) (cs : List Call) (i : ℕ)
    → length cs ≤ i → items ++ answers rule l (drop i cs) ≡ all → run rule l (drop i cs) ≡ end → (items ≡ all) × (l ≡ end)
all_played rule l items all end cs i h p q =
    (sym (append-nil items) ∙ (ap (λ z. items ++ answers rule l z) (sym (drop_all i cs h)) ∙ p), ap (run rule l) (sym (drop_all i cs h)) ∙ q)

pub whole_run : (code : Meaning) → Sound code → (before after : Ledger) (cs : List Call) (given : List (Result Answer BookFault))
    → given ≡ answers code.rule before cs → after ≡ run code.rule before cs → Whole code before after cs given
whole_run code sound before after cs given p q =
    subst (λ z. Whole code before z cs given) (sym q)
    (subst (λ z. Whole code before (run code.rule before cs) cs z) (sym p) (whole code sound before cs))
