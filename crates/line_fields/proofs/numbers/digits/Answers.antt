use Rattle.std.proofs.Common.{arith, rules}
use Rattle.line_fields.proofs.Tens.{ten_power_le}
use Rattle.line_fields.proofs.numbers.digits.Goals as goal

pub overflow_mul-value : goal.overflow_mul-value
overflow_mul-value c = let six = ten_power_le c.loop-byte.byte-index 6 (omega arith) in search rules

pub overflow_add-value : goal.overflow_add-value
overflow_add-value c = let six = ten_power_le c.loop-byte.byte-index 6 (omega arith) in search rules

pub returns-clause-bound : goal.returns-clause-bound
returns-clause-bound c = let seven = ten_power_le c.loop-byte.byte-index 7 (omega arith) in search rules
