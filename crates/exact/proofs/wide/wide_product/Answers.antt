use Rattle.std.proofs.Common.{◌^◌, arith}
use Rattle.exact.proofs.Split.{by_halves}
use Rattle.exact.proofs.wide.wide_product.Goals as goal

pub returns : goal.returns
returns c = omega (arith, by_halves c.args.a c.args.b (2 ^ 64))
