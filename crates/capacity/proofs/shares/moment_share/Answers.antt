use Rattle.std.proofs.Common.{◌∙◌, arith}
use Rattle.capacity.proofs.ShareSizes.{share_is, moment_share_small}
use Rattle.capacity.proofs.shares.moment_share.Goals as goal

pub returns : goal.returns
returns c =
    let k = c.args.strength.value in
    let e = share_is 314159265 640000000000000000000 c.from.ensures c.from-2.ensures (c.from-3.ensures ∙ c.section_modulus-section.ensures.num) (c.from-4.ensures ∙ c.section_modulus-section.ensures.den) in
    record { value = e; bound = omega (arith, e, moment_share_small k (omega arith) c.args.culm.now) }
