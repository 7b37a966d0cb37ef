use Rattle.std.proofs.Common.{◌≡◌, sum_by, arith, rules}
use Rattle.quantities.specs.Bundles.{culms_of}
use Rattle.quantities.proofs.Bundled.{culms_some, culms_few}
use Rattle.capacity.specs.Terms.{second_moment}
use Rattle.capacity.proofs.Rounded.{second_moment_lies}
use Rattle.capacity.proofs.Summed.{culms_fit}
use Rattle.capacity.proofs.figures.second_moments.Goals as goal

pub sum-requires-clause-fits : goal.sum-requires-clause-fits
sum-requires-clause-fits c =
    culms_fit c.args.bundle.now _ _ (cc) c.map.ensures.closure (λ x r q k. search rules)

pub returns-clause-bound : goal.returns-clause-bound
returns-clause-bound c =
    let b = c.args.bundle.now in
    let e : c.sum.result ≡ sum_by second_moment (culms_of b) = search rules in
    omega (arith, e, second_moment_lies (culms_of b) (culms_some b) (culms_few b))
