-- The whole-number tests against the clauses at figures over their scales. Assumes nothing.
use Rattle.std.proofs.Common.{ℕ, ◌*◌, ◌<◌, ◌≤◌, arith}
use Rattle.exact.specs.Fraction.{over, whole, AtMost}
use Rattle.exact.specs.Laws.{Positive}
use Rattle.clauses.specs.Clauses.{Capacities, TensionMet, CompressionMet}
use Rattle.clauses.specs.Laws.{PositiveAll, Both}
use Rattle.clauses.specs.Whole.{TensionWhole, CompressionWhole}
use Rattle.clauses.proofs.Algebra.{compression_transfer}
use Rattle.clauses.proofs.Literally.{tension_whole, tension_literal, compression_whole, compression_literal}

-- figures as capacities
abbrev pub figures : (r s t c e : ℕ) → Capacities
figures r s t c e = record { moment = over r 32768; shear = over s 65536; tension = over t 65536; crushing = over c 65536; buckling = over e 65536 }

pub bending_size : (n r : ℕ) → Both (n * 32768 ≤ r) (AtMost (whole n) (over r 32768))
bending_size n r = (λ h. omega arith, λ h. omega arith)

pub shear_size : (n s : ℕ) → Both (n * 65536 ≤ s) (AtMost (whole n) (over s 65536))
shear_size n s = (λ h. omega arith, λ h. omega arith)

module _ (r s t c e : ℕ) (p : PositiveAll (figures r s t c e)) (m : ℕ) where
  abbrev k : Capacities
  k = figures r s t c e

  pub tension_size : (n : ℕ) → Both (TensionWhole r t (n * 65536) (m * 32768)) (TensionMet k (over n 1) (whole m))
  tension_size n = (λ h. tension_literal k (over n 1) (whole m) (omega arith), λ h. omega (arith, tension_whole k (over n 1) (whole m) h))

  module _ (n : ℕ) (some : 0 < n) where
    axial : Positive (over n 1)
    axial = record { num = some; den = omega arith }

    large : 0 < n * (65536 * 65536)
    large = omega arith

    buckling_some : 0 < e
    buckling_some = p.buckling.num

    moment_some : 0 < r
    moment_some = p.moment.num

    pub compression_size : Both (CompressionWhole r e c (n * 65536) (m * 32768)) (CompressionMet k (over n 1) (whole m))
    compression_size = (
      λ h.
          compression_literal k (over n 1) (whole m) p.moment p.buckling p.crushing axial (omega arith)
          (compression_transfer r e c (n * 65536) (m * 32768) (r * 1) (e * (65536 * 1)) (c * (65536 * 1)) (n * (65536 * 65536)) (m * 32768)
          moment_some (omega (arith, buckling_some)) (omega arith) (omega arith) (omega arith) (omega arith) h),
      λ h.
          compression_transfer (r * 1) (e * (65536 * 1)) (c * (65536 * 1)) (n * (65536 * 65536)) (m * 32768) r e c (n * 65536) (m * 32768)
          (omega (arith, moment_some)) buckling_some large (omega arith) (omega arith) (omega arith)
          (compression_whole k (over n 1) (whole m) p.moment p.buckling p.crushing axial (omega arith) h),
    )
