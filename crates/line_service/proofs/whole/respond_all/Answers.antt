use Rattle.std.proofs.Common.{◌≡◌, ◌+◌, [], ◌++◌, length, take, refl, sym, ap, ◌∙◌, arith, rules}
use Rattle.std.proofs.lemmas.List.{take_all}
use Rattle.line_service.specs.Feeding.{count}
use Rattle.line_service.specs.Whole.{glued}
use Rattle.line_service.proofs.Steps.{took_none, took_same}
use Rattle.line_service.proofs.Wholes.{glued_front, glued_more, part_all, answered_front, answered_end}
use Rattle.line_service.proofs.whole.respond_all.Goals as goal

pub loop-chunk-init : goal.loop-chunk-init
loop-chunk-init g c = record {
  took = took_same g.R.Responder.manner (took_none g.R.Responder.manner _ [] _ refl) refl refl c.new-service.ensures.front refl;
  capacity = omega arith;
}

pub returns-in_err-feed-clause-answered : goal.returns-in_err-feed-clause-answered
returns-in_err-feed-clause-answered g c =
    let chunks = c.args.chunks.now in
    let taken = count c.feed.result _ in
    let joined = c.feed.ensures.joins _ _ _ _ _ c.loop-chunk.invariant.took in
    answered_front g.R.Responder.manner _ _ _ _ _ _ (length (glued (take c.loop-chunk.chunk-index chunks)) + taken) _ (search rules) c.new-service.ensures.state
    (glued_front chunks c.loop-chunk.chunk-index _ taken c.loop-chunk-test.true c.feed.ensures.bound)
    (c.feed.ensures.took.out ∙ joined.out)

pub loop-chunk-preserved : goal.loop-chunk-preserved
loop-chunk-preserved g c =
    let i = c.loop-chunk.chunk-index in
    let chunks = c.args.chunks.now in
    record {
      took = took_same g.R.Responder.manner (c.feed.ensures.joins _ _ _ _ _ c.loop-chunk.invariant.took)
          (glued_more chunks i _ c.loop-chunk-test.true ∙ ap (λ r. glued (take i chunks) ++ r) (sym (part_all c.feed.result _ (search rules))))
          refl
          refl
          c.feed.ensures.took.out;
      capacity = search rules;
    }

pub returns-clause-answered : goal.returns-clause-answered
returns-clause-answered g c =
    let i = c.loop-chunk.chunk-index in
    let chunks = c.args.chunks.now in
    let all : take i chunks ≡ chunks = take_all i chunks c.loop-chunk-test.false in
    answered_end g.R.Responder.manner _ _ _ _ _ _ _ _ c.finish.result c.new-service.ensures.state
    (took_same g.R.Responder.manner c.loop-chunk.invariant.took (ap glued (sym all)) refl refl refl)
    c.finish.ensures.said
