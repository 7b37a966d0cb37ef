use Rattle.std.proofs.Common.{false}
use Rattle.stock.proofs.Restored.{set_mark}
use Rattle.stock.proofs.aside.Aside.drop.Goals as goal

pub returns : goal.returns
returns c = set_mark false c.args.self.rows.now c.args.self.at _ c.requires
