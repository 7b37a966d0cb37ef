use Rattle.std.proofs.Common.{refl, ap, ◌∙◌}
use Rattle.keyed_table.specs.Tables.{content}
use Rattle.stock.specs.Rows.{culms_in}
use Rattle.stock.proofs.Ghosts.{keeps}
use Rattle.stock.proofs.Moving.{clear}
use Rattle.stock.proofs.Wrapped.{replaced_wrapped, clear_replaced}
use Rattle.stock.proofs.stock.Stock.put.Goals as goal

pub invariant_of-self : goal.invariant_of-self
invariant_of-self c =
    let s = c.args.self.now in
    let rows = content s.rows in
    keeps _ _ _ c.replace.ensures.change.holds (clear_replaced _ rows refl (clear s)) (replaced_wrapped _ rows) c.requires.small

pub returns-clause-after : goal.returns-clause-after
returns-clause-after c = ap culms_in c.replace.ensures.change.holds ∙ replaced_wrapped _ (content c.args.self.now.rows)
