use Rattle.std.proofs.Common.{◌≡◌, ◌-◌, ◌≤◌, false, length, take, drop, ap, sym, ◌∙◌, arith, rules}
use Rattle.std.specs.List.{AllWithin}
use Rattle.std.proofs.lemmas.List.{length-drop, take_all}
use Rattle.ledger.specs.Table.{grade_held}
use Rattle.stock.specs.Rows.{is_part, bundle_in}
use Rattle.stock.proofs.Gathers.{none_before, no_parts, grade_of_first}
use Rattle.stock.proofs.gather.extent_of.Goals as goal

pub returns-in-Some-clause-count : goal.returns-in-Some-clause-count
returns-in-Some-clause-count c =
    let m = c.args.member in
    let rows = c.args.rows.now in
    let at = c.in-Some.at in
    let none : AllWithin (λ r. is_part m r ≡ false) rows 0 at = search rules in
    let rest : take (length rows - at) (drop at rows) ≡ drop at rows = take_all (length rows - at) (drop at rows) (omega (arith, length-drop at rows)) in
    let within : at ≤ length rows = search rules in
    c.count_parts.ensures ∙ ap (λ xs. length (bundle_in m xs)) rest ∙ sym (ap length (none_before m rows at within none))

pub returns-in-Some-clause-grade : goal.returns-in-Some-clause-grade
returns-in-Some-clause-grade c =
    sym (grade_of_first c.args.member c.args.rows.now c.in-Some.at c.index-rows-at.result (search rules) (search rules) (search rules))

pub returns-in-None-clause-count : goal.returns-in-None-clause-count
returns-in-None-clause-count c = sym (ap length (no_parts c.args.member c.args.rows.now (search rules)))

pub returns-in-None-clause-grade : goal.returns-in-None-clause-grade
returns-in-None-clause-grade c = sym (ap grade_held (no_parts c.args.member c.args.rows.now (search rules)))
