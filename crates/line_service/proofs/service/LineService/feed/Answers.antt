use Rattle.std.proofs.Common.{◌≡◌, ◌-◌, ◌<◌, ◌++◌, length, get_or, take, drop, refl, sym, ap, ◌∙◌, arith, rules}
use Rattle.std.proofs.lemmas.List.{take_all}
use Rattle.line_service.specs.Front.{front_of}
use Rattle.line_service.proofs.Rests.{past_more, rest_more, byte_more}
use Rattle.line_service.proofs.Steps.{took_none, took_same, took_kept, took_end, joins}
use Rattle.line_service.proofs.service.LineService.feed.Goals as goal

pub loop-end-init : goal.loop-end-init
loop-end-init g c =
    let none : 0 ≡ length c.args.chunk.now - length c.args.chunk.now = omega arith in
    record {
      within = omega arith;
      rest = ap (λ n. drop n c.args.chunk.now) none;
      took = took_same g.R.Responder.manner (took_none g.R.Responder.manner _ _ _ (sym (take_all 81 _ c.args.self.now.short))) (ap (λ n. take n c.args.chunk.now) (sym none)) refl refl refl;
      capacity = omega arith;
    }

pub returns-in_err-map_err-clause-took : goal.returns-in_err-map_err-clause-took
returns-in_err-map_err-clause-took g c =
    let m = g.R.Responder.manner in
    let inv = c.loop-end.invariant in
    let kept = took_kept m _ _ _ _ _ _ _ _ _ _ c.in-Some.end inv.rest (search rules) (search rules) c.keep.ensures.front inv.took in
    took_same m kept (search rules) (search rules) (search rules) (search rules)

pub loop-end-preserved : goal.loop-end-preserved
loop-end-preserved g c =
    let m = g.R.Responder.manner in
    let inv = c.loop-end.invariant in
    let chunk = c.args.chunk.now in
    let rest = c.loop-end.rest.now in
    let end = c.in-Some.end in
    let inside : end < length rest = search rules in
    let is : get_or rest end 0 ≡ 10 = search rules in
    let kept = took_kept m _ _ _ _ _ _ _ _ _ _ end inv.rest (omega arith) (search rules) c.keep.ensures.front inv.took in
    record {
      within = omega (arith, past_more chunk rest end inv.within inside);
      rest = rest_more chunk rest end inv.within inside inv.rest;
      took = took_same m (took_end m _ _ _ _ _ _ _ kept)
          (ap (λ n. take n chunk) (past_more chunk rest end inv.within inside) ∙ byte_more chunk rest _ end 10 inv.rest inside is)
          (search rules)
          (search rules)
          (search rules);
      capacity = search rules;
    }

pub returns-clause-took : goal.returns-clause-took
returns-clause-took g c =
    let m = g.R.Responder.manner in
    let inv = c.loop-end.invariant in
    let rest = c.loop-end.rest.now in
    let front = c.keep-2.ensures.front ∙ ap (λ r. front_of (c.loop-end.self.front.items ++ r)) (sym (take_all (length rest) rest (omega arith))) in
    let kept = took_kept m _ _ _ _ _ _ _ _ _ _ (length rest) inv.rest (omega arith) (search rules) front inv.took in
    took_same m kept (ap (λ n. take n c.args.chunk.now) (omega arith)) (search rules) refl refl

pub returns-in_err-map_err-clause-joins : goal.returns-in_err-map_err-clause-joins
returns-in_err-map_err-clause-joins g c = joins g.R.Responder.manner _ _ _ _ _ _ _ (returns-in_err-map_err-clause-took g c)

pub returns-clause-joins : goal.returns-clause-joins
returns-clause-joins g c = joins g.R.Responder.manner _ _ _ _ _ _ _ (returns-clause-took g c)
