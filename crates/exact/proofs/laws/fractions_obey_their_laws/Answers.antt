use Rattle.exact.proofs.Order.{laws}
use Rattle.exact.proofs.laws.fractions_obey_their_laws.Goals as goal

pub returns : goal.returns
returns c = laws
