use Rattle.std.proofs.Common.{◌≡◌, ◌-◌, ◌≤◌, length, take, drop, vec_capacity}
use Rattle.line_service.specs.Feeding.{Took}
use Rattle.line_service.proofs.service.LineService.feed.Given as goal

-- how many bytes of the chunk are behind: all but the rest
abbrev pub invariant-loop-end : goal.invariant-loop-end
invariant-loop-end g l =
    let past = length l.chunk - length l.rest in
    record {
      within : length l.rest ≤ length l.chunk;
      rest : l.rest ≡ drop past l.chunk;
      took : Took g.R.Responder.manner (g.R.Responder.state l.initial.self.responder) l.initial.self.front.items (take past l.chunk) (g.R.Responder.state l.self.responder) l.self.front.items l.initial.out.items l.out.items;
      capacity : vec_capacity l.initial.out ≤ vec_capacity l.out;
    }

abbrev pub decreases-loop-end : goal.decreases-loop-end
decreases-loop-end g l = length l.rest
