-- Figures of as many units are the same. Assumes nothing.
use mathlib.Core.HLevel.{is_prop→PathP}
use Rattle.std.specs.Prelude.{◌≡◌, ℕ, ◌<◌}
use Rattle.std.proofs.Math.Bridge.{le_prop}
use Rattle.capacity.specs.declared.units.Figure.{Figure}

pub figure_same : {scale limit : ℕ} (u v : Figure scale limit) → u.units ≡ v.units → u ≡ v
figure_same {limit = limit} u v e = λ i. record {
  units = e i;
  below = is_prop→PathP (λ j. e j < limit) (λ j. le_prop) u.below v.below i;
}
