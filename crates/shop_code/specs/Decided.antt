-- The whole-number tests decide the clauses at the figures. Assumes nothing.
use Rattle.std.specs.Prelude.{ℕ, ◌*◌, ℤ, unsigned_abs}
use Rattle.exact.specs.Fraction.{over, whole}
use Rattle.clauses.specs.Clauses.{Capacities, TensionMet, CompressionMet, InTension, InCompression}
use Rattle.clauses.specs.Laws.{PositiveAll, Both}
use Rattle.clauses.specs.Whole.{TensionWhole, CompressionWhole}
use Rattle.clauses.proofs.Signs.{in_tension, of_tension, in_compression, of_compression, some_compression}
use Rattle.clauses.proofs.Sizes.{figures, tension_size, compression_size}
use Rattle.shop_code.specs.Deciding.{PullsWithin, PressesWithin}

module _ (r s t c e : ℕ) (p : PositiveAll (figures r s t c e)) (m : ℕ) where
  abbrev k : Capacities
  k = figures r s t c e

  pub tension_decided : (z : ℤ) → Both (PullsWithin r t z m) (InTension z (λ n. TensionMet k (over n 1) (whole m)))
  tension_decided z =
      let n = unsigned_abs z in
      let size = tension_size r s t c e p m n in (
        λ h. in_tension z _ (λ neg. size.0 (of_tension z (λ n. TensionWhole r t (n * 65536) (m * 32768)) neg h)),
        λ h. in_tension z _ (λ neg. size.1 (of_tension z (λ n. TensionMet k (over n 1) (whole m)) neg h)),
      )

  pub compression_decided : (z : ℤ) → Both (PressesWithin r e c z m) (InCompression z (λ n. CompressionMet k (over n 1) (whole m)))
  compression_decided z =
      let n = unsigned_abs z in
      let size = compression_size r s t c e p m n in (
        λ h.
            in_compression z _
            (λ up. (size (some_compression z up)).0 (of_compression z (λ n. CompressionWhole r e c (n * 65536) (m * 32768)) up h)),
        λ h.
            in_compression z _ (λ up. (size (some_compression z up)).1 (of_compression z (λ n. CompressionMet k (over n 1) (whole m)) up h)),
      )
