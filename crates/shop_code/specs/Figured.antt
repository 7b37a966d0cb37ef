-- The figures as capacities: at most the exact ones at the lower p, which at the upper p are at most 1.001 times them. Assumes nothing.
use Rattle.std.specs.Prelude.{◌<◌, List, length}
use Rattle.exact.specs.Fraction.{Fraction, over}
use Rattle.exact.specs.Laws.{Positive}
use Rattle.exact.specs.Pi.{lower_pi, upper_pi}
use Rattle.quantities.specs.declared.basis.DesignBasis.{DesignBasis}
use Rattle.quantities.specs.declared.readings.Readings.{Readings}
use Rattle.capacity.specs.Figures.{moment_figure, shear_figure, tension_figure, crushing_figure, buckling_figure}
use Rattle.capacity.proofs.Positives.{moment_positive, shear_positive, tension_positive, crushing_positive, buckling_positive, figure_some}
use Rattle.capacity.proofs.Rounded.{moment_figured, shear_figured, tension_figured, crushing_figured, buckling_figured}
use Rattle.design_code.specs.Meaning.{Bundled}
use Rattle.clauses.specs.Clauses.{Capacities}
use Rattle.clauses.specs.Laws.{PositiveAll, AtMostAll, times_all}
use Rattle.clauses.proofs.Growing.{growth, upper_positive, moment_scale_some, force_scale_some, near}
use Rattle.shop_code.specs.Shop.{capacities_of}

-- the figures over their scales
abbrev pub figures_of : List Readings → DesignBasis → Capacities
figures_of cs b = record {
  moment = over (moment_figure cs b) 32768;
  shear = over (shear_figure cs b) 65536;
  tension = over (tension_figure cs b) 65536;
  crushing = over (crushing_figure cs b) 65536;
  buckling = over (buckling_figure cs b) 65536;
}

pub capacities_positive : (p : Fraction) → Positive p → (cs : List Readings) (b : DesignBasis) → 0 < length cs → PositiveAll (capacities_of p cs b)
capacities_positive p pp cs b some = record {
  moment = moment_positive p pp cs b some;
  shear = shear_positive p pp cs b some;
  tension = tension_positive p pp cs b some;
  crushing = crushing_positive p pp cs b some;
  buckling = buckling_positive p pp cs b some;
}

module _ (cs : List Readings) (b : DesignBasis) (n : Bundled cs) where
  pub figures_below : AtMostAll (figures_of cs b) (capacities_of lower_pi cs b)
  figures_below = record {
    moment = (moment_figured cs b).below;
    shear = (shear_figured cs b).below;
    tension = (tension_figured cs b n.some).below;
    crushing = (crushing_figured cs b n.some).below;
    buckling = (buckling_figured cs n.some n.few b).below;
  }

  pub figures_near : AtMostAll (capacities_of upper_pi cs b) (times_all growth (figures_of cs b))
  figures_near = record {
    moment = near (moment_figure cs b) 32768 _ _ (moment_figured cs b);
    shear = near (shear_figure cs b) 65536 _ _ (shear_figured cs b);
    tension = near (tension_figure cs b) 65536 _ _ (tension_figured cs b n.some);
    crushing = near (crushing_figure cs b) 65536 _ _ (crushing_figured cs b n.some);
    buckling = near (buckling_figure cs b) 65536 _ _ (buckling_figured cs n.some n.few b);
  }

  pub figures_positive : PositiveAll (figures_of cs b)
  figures_positive =
      let u = capacities_positive upper_pi upper_positive cs b n.some in
      record {
        moment = record { num = figure_some (moment_figure cs b) 32768 _ _ moment_scale_some u.moment (moment_figured cs b); den = moment_scale_some };
        shear = record { num = figure_some (shear_figure cs b) 65536 _ _ force_scale_some u.shear (shear_figured cs b); den = force_scale_some };
        tension = record { num = figure_some (tension_figure cs b) 65536 _ _ force_scale_some u.tension (tension_figured cs b n.some); den = force_scale_some };
        crushing = record { num = figure_some (crushing_figure cs b) 65536 _ _ force_scale_some u.crushing (crushing_figured cs b n.some); den = force_scale_some };
        buckling = record { num = figure_some (buckling_figure cs b) 65536 _ _ force_scale_some u.buckling (buckling_figured cs n.some n.few b); den = force_scale_some };
      }
