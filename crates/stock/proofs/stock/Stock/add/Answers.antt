use Rattle.std.proofs.Common.{refl}
use Rattle.stock.proofs.Moving.{small_added}
use Rattle.stock.proofs.stock.Stock.add.Goals as goal

pub insert-requires : goal.insert-requires
insert-requires c = record { small = small_added c.args.self.now _ refl }
