-- The clauses on whole figures, decided, and the verdict that a decision gives. Assumes nothing.
use Rattle.std.specs.Prelude.{ℕ, zero, suc, ◌-◌, ◌*◌, ℤ, pos, negsuc}
use Rattle.exact.specs.Deciding.{at_most, both}
use Rattle.clauses.specs.Clauses.{InTension, InCompression}
use Rattle.clauses.specs.Whole.{Slack, TensionWhole, CompressionWhole}
use Rattle.design_code.specs.Verdicts.{Verdict, all_met, refused_by}

-- met where the statement holds, else refused by clause k
abbrev pub verdict_by : {P : Type 0} → ℕ → Dec P → Verdict
verdict_by k (yes p) = all_met
verdict_by k (no g) = refused_by k

abbrev pub slack? : (w p q : ℕ) → Dec (Slack w p q)
slack? w p q = both (at_most w p) (both (at_most w q) (at_most (w * w) (5 * ((p - w) * (q - w)))))

abbrev pub compression_whole? : (r e c n m : ℕ) → Dec (CompressionWhole r e c n m)
compression_whole? r e c n m =
    both (at_most (suc n) e)
    (both (at_most (m * e) (r * (e - n)))
    (slack? (n * (r * (e - n))) ((r * (e - n) - m * e) * c) ((r * (e - n) - m * e) * e)))

-- figures r in 1/32768 newton metre and t, e, c in 1/65536 newton; forces in newtons and newton metres
abbrev pub PullsWithin : (r t : ℕ) → ℤ → ℕ → Type 0
PullsWithin r t z m = InTension z (λ n. TensionWhole r t (n * 65536) (m * 32768))

abbrev pub PressesWithin : (r e c : ℕ) → ℤ → ℕ → Type 0
PressesWithin r e c z m = InCompression z (λ n. CompressionWhole r e c (n * 65536) (m * 32768))

abbrev pub pulls_within? : (r t : ℕ) (z : ℤ) (m : ℕ) → Dec (PullsWithin r t z m)
pulls_within? r t (pos n) m = yes tt
pulls_within? r t (negsuc n) m = at_most _ _

abbrev pub presses_within? : (r e c : ℕ) (z : ℤ) (m : ℕ) → Dec (PressesWithin r e c z m)
presses_within? r e c (pos zero) m = yes tt
presses_within? r e c (pos (suc n)) m = compression_whole? r e c (suc n * 65536) (m * 32768)
presses_within? r e c (negsuc n) m = yes tt
