use Rattle.quantities.proofs.Holding.{within_is}
use Rattle.quantities.proofs.within.Within.or_fault.Goals as goal

pub returns-clause-held : goal.returns-clause-held
returns-clause-held g c = within_is _ c.args.fault
