use Rattle.std.proofs.Common.{◌≡◌}
use Rattle.quantities.specs.Bundles.{culms_of}
use Rattle.quantities.proofs.Bundled.{culms_some, culms_few}
use Rattle.capacity.specs.Figures.{buckling_figure}
use Rattle.capacity.proofs.Rounded.{buckling_figured}
use Rattle.capacity.proofs.figures.buckling_figure.Goals as goal

pub returns-clause-figured : goal.returns-clause-figured
returns-clause-figured c =
    let b = c.args.bundle.now in
    let e : c.buckling_share-units.result ≡ buckling_figure (culms_of b) b.basis = cc in
    rw e (buckling_figured (culms_of b) (culms_some b) (culms_few b) b.basis)
