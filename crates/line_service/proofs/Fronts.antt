-- A front of a line, several bytes on.
use Rattle.std.proofs.Common.{◌≡◌, ℕ, ◌+◌, ◌<◌, ◌≤◌, min, List, ◌++◌, length, take, sym, ap, ◌∙◌, ⊎_elim, arith}
use Rattle.std.proofs.lemmas.Bool.{cases_lt}
use Rattle.std.proofs.lemmas.List.{take_all}
use Rattle.std.proofs.Math.Seq.{take-append-add}
use Rattle.line_service.specs.Front.{front_of}

-- behind the kept bytes stand as many more as there is room for
pub front_more : (kept more : List ℕ) (fitting room : ℕ) → length kept + room ≡ 81 → fitting ≡ min (length more) room → kept ++ take fitting more ≡ front_of (kept ++ more)
front_more kept more fitting room size fit =
    let taken : take fitting more ≡ take room more =
    ⊎_elim
    (λ (lt : room < length more). ap (λ n. take n more) (omega arith))
    (λ (le : length more ≤ room). take_all fitting more (omega arith) ∙ sym (take_all room more le))
    (cases_lt room (length more)) in
    ap (λ r. kept ++ r) taken ∙ sym (ap (λ n. take n (kept ++ more)) (sym size) ∙ take-append-add kept more room)
