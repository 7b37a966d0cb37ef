use Rattle.std.proofs.Common.{◌≡◌, arith, rules}
use Rattle.quantities.specs.Bundles.{culms_of}
use Rattle.quantities.proofs.Bundled.{culms_few}
use Rattle.capacity.specs.Figures.{moment_figure}
use Rattle.capacity.proofs.Rounded.{moment_figured, moment_small}
use Rattle.capacity.proofs.Summed.{culms_fit}
use Rattle.capacity.proofs.figures.moment_figure.Goals as goal

pub sum-units-requires-clause-fits : goal.sum-units-requires-clause-fits
sum-units-requires-clause-fits c =
    culms_fit c.args.bundle.now _ _ (cc) c.map.ensures.closure (λ x r q k. search rules)

pub invariant_of-result : goal.invariant_of-result
invariant_of-result c =
    let b = c.args.bundle.now in
    let e : c.sum-units.result ≡ moment_figure (culms_of b) b.basis = search rules in
    record { below = omega (arith, e, moment_small (culms_of b) b.basis (culms_few b)) }

pub returns-clause-figured : goal.returns-clause-figured
returns-clause-figured c =
    let b = c.args.bundle.now in
    let e : c.sum-units.result ≡ moment_figure (culms_of b) b.basis = search rules in
    rw e (moment_figured (culms_of b) b.basis)
