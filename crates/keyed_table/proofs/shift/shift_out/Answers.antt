use Rattle.std.proofs.Common.{◌≡◌, ◌+◌, ◌-◌, arith}
use Rattle.std.proofs.lemmas.Grind.{common_steps}
use Rattle.std.proofs.lemmas.List.{drop-take, take-take}
use Rattle.keyed_table.proofs.shift.shift_out.Goals as goal

pub returns : goal.returns
returns g c =
    let rows = c.args.rows.now in
    let at = c.args.at in
    let used = c.args.used in
    let whole : at + 1 + (used - (at + 1)) ≡ used = omega arith in
    let end : at + (used - (at + 1)) ≡ used - 1 = omega arith in
    let front = take-take at used rows (omega arith) in
    let back = drop-take (at + 1) (used - (at + 1)) rows in
    let moved = c.copy_within.ensures.after in
    record { rows = grind (arith, common_steps) }
