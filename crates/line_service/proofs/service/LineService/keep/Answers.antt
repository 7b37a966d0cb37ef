use Rattle.std.proofs.Common.{arith, rules}
use Rattle.line_service.proofs.Fronts.{front_more}
use Rattle.line_service.proofs.service.LineService.keep.Goals as goal

pub returns-clause-front : goal.returns-clause-front
returns-clause-front g c = let e = front_more c.args.self.now.front.items c.args.more.now c.min-fitting.result c.remaining_capacity.result (omega arith) (search rules) in search rules
