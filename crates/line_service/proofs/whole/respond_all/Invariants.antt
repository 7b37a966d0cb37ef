use Rattle.std.proofs.Common.{◌≤◌, [], take, vec_capacity}
use Rattle.line_service.specs.Feeding.{Took}
use Rattle.line_service.specs.Whole.{glued}
use Rattle.line_service.proofs.whole.respond_all.Given as goal

abbrev pub invariant-loop-chunk : goal.invariant-loop-chunk
invariant-loop-chunk g l = record {
  took : Took g.R.Responder.manner (g.R.Responder.state l.initial.service.responder) [] (glued (take l.chunk-index l.chunks)) (g.R.Responder.state l.service.responder) l.service.front.items l.initial.out.items l.out.items;
  capacity : vec_capacity l.initial.out ≤ vec_capacity l.out;
}
