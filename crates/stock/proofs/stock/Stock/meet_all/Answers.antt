use Rattle.std.proofs.Common.{ap, ◌∙◌, rules}
use Rattle.keyed_table.specs.Tables.{content}
use Rattle.stock.specs.Rows.{culms_in, travelled}
use Rattle.stock.proofs.Ghosts.{keeps, travelled_wrapped}
use Rattle.stock.proofs.Moving.{clear}
use Rattle.stock.proofs.Wrapped.{clear_map}
use Rattle.stock.proofs.stock.Stock.meet_all.Goals as goal

pub invariant_of-self : goal.invariant_of-self
invariant_of-self c =
    let s = c.args.self.now in
    let rows = content s.rows in
    let became = c.change_all.ensures.change (travelled c.args.event) (λ row after p. search rules) in
    keeps _ _ _ became.holds (clear_map (travelled c.args.event) (λ r e. e) rows (clear s)) (travelled_wrapped c.args.event rows) c.requires.small

pub returns : goal.returns
returns c =
    let became = c.change_all.ensures.change (travelled c.args.event) (λ row after p. search rules) in
    record {
      after = ap culms_in became.holds ∙ travelled_wrapped c.args.event (content c.args.self.now.rows);
      beyond = record { limit = became.limit; rows = became.past };
    }
