use Rattle.std.proofs.Common.{false, length, ap, ◌∙◌, ap₂, arith, rules}
use Rattle.stock.specs.Marks.{with_mark}
use Rattle.stock.proofs.Restored.{length_mark, restored}
use Rattle.stock.proofs.aside.gather_without.Goals as goal

pub drop-guard-requires : goal.drop-guard-requires
drop-guard-requires c = omega (arith, ap length c.mark-guard.ensures.rows, length_mark)

pub returns-clause-same : goal.returns-clause-same
returns-clause-same c =
    let back =
    c.drop-guard.ensures
    ∙ ap₂ (with_mark false) c.mark-guard.ensures.at c.mark-guard.ensures.rows
    ∙ restored c.args.at c.args.rows.now c.requires.clear in
    search rules
