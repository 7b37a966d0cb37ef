use Rattle.std.proofs.Common.{sym, ◌∙◌, arith}
use Rattle.stock.proofs.Moving.{small_held}
use Rattle.stock.proofs.stock.Stock.hold.Goals as goal

pub put-requires : goal.put-requires
put-requires c = record {
  small = small_held c.args.self.now c.args.member c.args.number c.in_ok-culm.culm _ _ (sym c.get.ensures ∙ c.in_ok-culm.ensures.ok_part)
      (sym c.in_ok-ok_or.ensures.ok_part ∙ c.meet.ensures.said) c.meet.ensures.after (omega (arith, c.extent-extent.ensures.count, c.if-extent-ge-MOST_CULMS.false));
}
