use mathlib.Core.Path.{◌∙◌, ap}
use Rattle.quantities.specs.Bundles.{culms_of}
use Rattle.quantities.proofs.Bundled.{culms_some, culms_few}
use Rattle.design_code.proofs.Worth.{worth}
use Rattle.design_code.proofs.appraisal.appraise.Goals as goal

pub returns : goal.returns
returns g c =
    let code = c.args.code.now in
    let x = c.args.bundle.now in
    worth (g.C.DesignCode.meaning code) (g.met.C.DesignCode.sound code) (culms_of x) x.basis c.args.forces c.judge.result
    (record { some = culms_some x; few = culms_few x })
    (c.judge.ensures ∙ ap (λ h. g.C.DesignCode.judged code h c.args.forces) c.figures-figures.ensures ∙ g.met.C.DesignCode.ruled code x c.args.forces)
