use Rattle.std.proofs.Common.{◌∙◌, arith}
use Rattle.capacity.proofs.ShareSizes.{share_is, shear_share_small}
use Rattle.capacity.proofs.shares.shear_share.Goals as goal

pub returns : goal.returns
returns c =
    let k = c.args.strength.value in
    let e = share_is 314159265 4000000000000000 c.from.ensures c.from-2.ensures (c.from-3.ensures ∙ c.shear_area-area.ensures.num) (c.from-4.ensures ∙ c.shear_area-area.ensures.den) in
    record { value = e; bound = omega (arith, e, shear_share_small k (omega arith) c.args.culm.now) }

pub overflow_cast-result : goal.overflow_cast-result
overflow_cast-result c =
    let k = c.args.strength.value in
    let e = share_is 314159265 4000000000000000 c.from.ensures c.from-2.ensures (c.from-3.ensures ∙ c.shear_area-area.ensures.num) (c.from-4.ensures ∙ c.shear_area-area.ensures.den) in
    omega (arith, e, shear_share_small k (omega arith) c.args.culm.now)
