use Rattle.std.proofs.Common.{true}
use Rattle.stock.proofs.Restored.{set_mark}
use Rattle.stock.proofs.aside.Aside.mark.Goals as goal

pub returns-clause-rows : goal.returns-clause-rows
returns-clause-rows c = set_mark true c.args.rows.now c.args.at _ c.requires
