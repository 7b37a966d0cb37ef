use Rattle.std.proofs.Common.{rules}
use Rattle.capacity.specs.declared.told.Capacity.TheVariants.{Moment, Shear, Tension, Crushing, Buckling}
use Rattle.capacity.proofs.Pairs.{tells_at}
use Rattle.capacity.proofs.told.tell.Goals as goal

pub returns-in-Moment : goal.returns-in-Moment
returns-in-Moment c = tells_at Moment c.in-Moment.is _ _ _ (c.told.ensures _ _ (search rules))

pub returns-in-Shear : goal.returns-in-Shear
returns-in-Shear c = tells_at Shear c.in-Shear.is _ _ _ (c.told-in-Shear.ensures _ _ (search rules))

pub returns-in-Tension : goal.returns-in-Tension
returns-in-Tension c = tells_at Tension c.in-Tension.is _ _ _ (c.told-in-Tension.ensures _ _ (search rules))

pub returns-in-Crushing : goal.returns-in-Crushing
returns-in-Crushing c = tells_at Crushing c.in-Crushing.is _ _ _ (c.told-in-Crushing.ensures _ _ (search rules))

pub returns-in-Buckling : goal.returns-in-Buckling
returns-in-Buckling c = tells_at Buckling c.in-Buckling.is _ _ _ (c.told-in-Buckling.ensures _ _ (search rules))
