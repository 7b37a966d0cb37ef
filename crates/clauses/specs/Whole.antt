-- The clauses of axial forces on whole numbers, as a code decides them: r and m in one unit, the others in another. Assumes nothing.
use Rattle.std.specs.Prelude.{ℕ, ◌+◌, ◌-◌, ◌*◌, ◌<◌, ◌≤◌}

-- n / t + m / r ≤ 1
abbrev pub TensionWhole : (r t n m : ℕ) → Type 0
TensionWhole r t n m = n * r + m * t ≤ t * r

-- w ≤ p, w ≤ q and w² ≤ 5 (p − w) (q − w)
abbrev pub Slack : (w p q : ℕ) → Type 0
Slack w p q = (w ≤ p) × ((w ≤ q) × (w * w ≤ 5 * ((p - w) * (q - w))))

-- n < e, m e ≤ r (e − n), and slack for n with what bending leaves of c and e, all times r (e − n)
abbrev pub CompressionWhole : (r e c n m : ℕ) → Type 0
CompressionWhole r e c n m =
    (n < e)
    × ((m * e ≤ r * (e - n))
    × Slack (n * (r * (e - n))) ((r * (e - n) - m * e) * c) ((r * (e - n) - m * e) * e))
