use Rattle.std.proofs.Common.{arith}
use Rattle.capacity.proofs.Sizes.{cubes_beside}
use Rattle.capacity.proofs.terms.shear_area.Goals as goal

pub returns-clause-some : goal.returns-clause-some
returns-clause-some c = omega (arith, (cubes_beside c.args.culm.now).some)
