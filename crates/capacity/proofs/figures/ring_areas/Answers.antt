use Rattle.std.proofs.Common.{◌≡◌, sum_by, arith, rules}
use Rattle.quantities.specs.Bundles.{culms_of}
use Rattle.quantities.proofs.Bundled.{culms_few}
use Rattle.capacity.specs.Terms.{ring_area}
use Rattle.capacity.proofs.Rounded.{area_small}
use Rattle.capacity.proofs.Summed.{culms_fit}
use Rattle.capacity.proofs.figures.ring_areas.Goals as goal

pub sum-requires-clause-fits : goal.sum-requires-clause-fits
sum-requires-clause-fits c =
    culms_fit c.args.bundle.now _ _ (cc) c.map.ensures.closure (λ x r q k. search rules)

pub returns-clause-bound : goal.returns-clause-bound
returns-clause-bound c =
    let b = c.args.bundle.now in
    let e : c.sum.result ≡ sum_by ring_area (culms_of b) = search rules in
    omega (arith, e, area_small (culms_of b) (culms_few b))
