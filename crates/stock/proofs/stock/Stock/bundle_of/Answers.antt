use Rattle.std.proofs.Common.{ap, ◌∙◌}
use Rattle.ledger.specs.Table.{question_of}
use Rattle.stock.specs.Rows.{bundle_in}
use Rattle.stock.proofs.Moving.{bundle_is, few_in}
use Rattle.stock.proofs.stock.Stock.bundle_of.Goals as goal

pub gather-requires : goal.gather-requires
gather-requires c = few_in c.args.self.now c.args.member.now.number _ c.rows.ensures.rows

pub returns : goal.returns
returns c =
    let m = c.args.member.now in
    let e = ap (bundle_in m.number) c.rows.ensures.rows ∙ bundle_is c.args.self.now m.number in
    c.gather.ensures ∙ ap (λ b. question_of b m) e
