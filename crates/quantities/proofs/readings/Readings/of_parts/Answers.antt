use Rattle.quantities.proofs.Holding.{third_is}
use Rattle.quantities.proofs.readings.Readings.of_parts.Goals as goal

pub returns : goal.returns
returns c = third_is _ _
