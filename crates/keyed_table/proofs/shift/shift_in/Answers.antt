use Rattle.std.proofs.Common.{◌≡◌, ◌+◌, ◌-◌, ◌++◌, ◌∷◌, [], take, drop, get_or, set, sym, ap, ap₂, ◌∙◌, arith}
use Rattle.std.proofs.lemmas.List.{append_assoc, drop-take, length-take-le, set_at, take-take, take_more}
use Rattle.keyed_table.proofs.shift.shift_in.Goals as goal

pub returns : goal.returns
returns g c =
    let rows = c.args.rows.now in
    let row = c.args.row in
    let at = c.args.at in
    let used = c.args.used in
    let before = take at rows in
    let moved = take (used - at) (drop at rows) in
    let past = drop (used + 1) rows in
    let whole : at + (used - at) ≡ used = omega arith in
    let end : at + 1 + (used - at) ≡ used + 1 = omega arith in
    let split = take_more rows at row (omega arith) in
    let join = append_assoc before (get_or rows at row ∷ []) moved in
    let front = sym (take-take at used rows (omega arith)) in
    let back = sym (drop-take at (used - at) rows) ∙ ap (λ n. drop at (take n rows)) whole in
    record {
      rows = ap (λ xs. set xs at row) (c.copy_within.ensures.after ∙ ap₂ (λ xs n. (xs ++ moved) ++ drop n rows) split end
          ∙ ap (λ xs. xs ++ past) join ∙ append_assoc before (get_or rows at row ∷ moved) past)
          ∙ set_at before _ _ row at (length-take-le at rows (omega arith))
          ∙ sym (append_assoc before (row ∷ moved) past)
          ∙ ap₂ (λ xs ys. (xs ++ row ∷ ys) ++ past) front back;
    }
