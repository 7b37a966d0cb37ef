use Rattle.std.proofs.Common.{w32, SFits}
use Rattle.std.proofs.lemmas.Int.{to_z-of_z}
use Rattle.quantities.proofs.Holding.{axial_is}
use Rattle.quantities.proofs.forces.AxialForce.in_field.Goals as goal

pub returns : goal.returns
returns c = let fits : SFits w32 c.args.newtons = c.ranges.newtons in axial_is c.args.newtons _ _ (simp to_z-of_z)
