use Rattle.std.proofs.Common.{◌≡◌, ◌-◌, ◌^◌, ap, arith}
use lib.Count.{count_leading_zeros, leading_length}
use Rattle.keyed_table.proofs.search.binary_digits.Goals as goal

pub returns : goal.returns
returns c =
    let digits = leading_length 64 c.args.count (omega arith) in
    let is : digits.0 ≡ 64 - count_leading_zeros 64 c.args.count = omega (arith, digits.1) in
    let power = ap (λ n. 2 ^ n) is in
    record { enough = omega (arith, digits.2, power); needed = omega (arith, digits.3, power) }
