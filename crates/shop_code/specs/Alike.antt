-- Figures of as many units each are the same. Assumes nothing.
use Rattle.std.specs.Prelude.{◌≡◌}
use Rattle.capacity.specs.Alike.{figure_same}
use Rattle.shop_code.specs.declared.figures.CompressionFigures.{CompressionFigures}
use Rattle.shop_code.specs.declared.figures.TensionFigures.{TensionFigures}

pub tension_same : (v w : TensionFigures) → v.moment.units ≡ w.moment.units → v.tension.units ≡ w.tension.units → v ≡ w
tension_same v w em et =
    let m = figure_same v.moment w.moment em in
    let t = figure_same v.tension w.tension et in
    λ i. record { moment = m i; tension = t i }

pub compression_same : (v w : CompressionFigures)
    → v.moment.units ≡ w.moment.units → v.buckling.units ≡ w.buckling.units → v.crushing.units ≡ w.crushing.units → v ≡ w
compression_same v w em eb ec =
    let m = figure_same v.moment w.moment em in
    let b = figure_same v.buckling w.buckling eb in
    let c = figure_same v.crushing w.crushing ec in
    λ i. record { moment = m i; buckling = b i; crushing = c i }
