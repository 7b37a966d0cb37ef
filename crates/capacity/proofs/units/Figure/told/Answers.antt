use Rattle.capacity.proofs.Pairs.{tells}
use Rattle.capacity.proofs.units.Figure.told.Goals as goal

pub returns : goal.returns
returns g c = tells c.args.self.now.units c.from-scale.ensures c.requires.scale.0
