use Rattle.std.proofs.Common.{ap, ◌∙◌}
use Rattle.keyed_table.specs.Tables.{content}
use Rattle.stock.specs.Rows.{culms_in}
use Rattle.stock.proofs.Ghosts.{keeps, small_without}
use Rattle.stock.proofs.Moving.{clear}
use Rattle.stock.proofs.Wrapped.{without_wrapped, clear_without}
use Rattle.stock.proofs.stock.Stock.take_out.Goals as goal

pub invariant_of-self : goal.invariant_of-self
invariant_of-self c =
    let s = c.args.self.now in
    let rows = content s.rows in
    keeps _ _ _ c.remove.ensures.change.holds (clear_without c.args.number rows (clear s)) (without_wrapped c.args.number rows)
    (small_without c.args.number (culms_in rows) s.bundles_small)

pub returns-clause-after : goal.returns-clause-after
returns-clause-after c = ap culms_in c.remove.ensures.change.holds ∙ without_wrapped c.args.number (content c.args.self.now.rows)
