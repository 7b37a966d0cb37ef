-- The figures of a bundle, each with its limit. Assumes nothing.
use Rattle.quantities.specs.Bundles.{culms_of}
use Rattle.quantities.specs.declared.bundle.Bundle.{Bundle}
use Rattle.quantities.proofs.Bundled.{culms_some, culms_few}
use Rattle.capacity.specs.Figures.{moment_figure, shear_figure, tension_figure, crushing_figure, buckling_figure}
use Rattle.capacity.proofs.Rounded.{moment_small, shear_small, buckling_figure_small}
use Rattle.capacity.proofs.Positives.{tension_small, crushing_small}
use Rattle.capacity.specs.declared.units.Figure.{Figure}
use Rattle.shop_code.specs.declared.figures.CompressionFigures.{CompressionFigures}
use Rattle.shop_code.specs.declared.figures.TensionFigures.{TensionFigures}

abbrev pub moment_units : Bundle → Figure 32768 68719476736
moment_units x = record { units = moment_figure (culms_of x) x.basis; below = moment_small (culms_of x) x.basis (culms_few x) }

abbrev pub shear_units : Bundle → Figure 65536 2199023255552
shear_units x = record { units = shear_figure (culms_of x) x.basis; below = shear_small (culms_of x) x.basis (culms_few x) }

abbrev pub tension_units : Bundle → Figure 65536 8796093022208
tension_units x = record { units = tension_figure (culms_of x) x.basis; below = tension_small (culms_of x) x.basis (culms_few x) }

abbrev pub crushing_units : Bundle → Figure 65536 8796093022208
crushing_units x = record { units = crushing_figure (culms_of x) x.basis; below = crushing_small (culms_of x) x.basis (culms_few x) }

abbrev pub buckling_units : Bundle → Figure 65536 70368744177664
buckling_units x =
    record { units = buckling_figure (culms_of x) x.basis; below = buckling_figure_small (culms_of x) (culms_some x) (culms_few x) x.basis }

abbrev pub tension_figures : Bundle → TensionFigures
tension_figures x = record { moment = moment_units x; tension = tension_units x }

abbrev pub compression_figures : Bundle → CompressionFigures
compression_figures x = record { moment = moment_units x; buckling = buckling_units x; crushing = crushing_units x }
