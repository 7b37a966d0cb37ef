use Rattle.std.proofs.Common.{sym, ◌∙◌}
use Rattle.stock.proofs.Moving.{small_freed}
use Rattle.stock.proofs.stock.Stock.free.Goals as goal

pub put-requires : goal.put-requires
put-requires c = record {
  small = small_freed c.args.self.now c.args.member c.args.number c.in_ok-culm.culm _ _ (sym c.get.ensures ∙ c.in_ok-culm.ensures.ok_part)
      (sym c.in_ok-ok_or.ensures.ok_part ∙ c.meet.ensures.said) c.meet.ensures.after;
}
