use Rattle.std.proofs.Common.{length, ap, ◌∙◌}
use Rattle.ledger.specs.Table.{grade_held}
use Rattle.stock.specs.Rows.{bundle_in}
use Rattle.stock.proofs.Moving.{bundle_is}
use Rattle.stock.proofs.stock.Stock.extent.Goals as goal

pub returns : goal.returns
returns c =
    let e = ap (bundle_in c.args.member) c.rows.ensures.rows ∙ bundle_is c.args.self.now c.args.member in
    record { count = c.extent_of.ensures.count ∙ ap length e; grade = c.extent_of.ensures.grade ∙ ap grade_held e }
