-- The relations on whole numbers turn on ratios alone. Assumes nothing.
use Rattle.std.proofs.Common.{ℕ, ◌+◌, ◌-◌, ◌*◌, ◌<◌, ◌≤◌, mul-le-mul_right, mul_comm, mul-le-mul, lt_of_mul-lt-mul_right, mul-le-mul_left, mul-pos, le_of_mul-le-mul_right, arith}
use native.Mathlib.Nat.{mul-sub, le_of_mul-le-mul_left}
use Rattle.clauses.specs.Whole.{Slack, TensionWhole, CompressionWhole}

pub slack_mono : {w p q w' p' q' : ℕ} → w' ≤ w → p ≤ p' → q ≤ q' → Slack w p q → Slack w' p' q'
slack_mono {w} {p} {q} {w'} {p'} {q'} hw hp hq (a, (b, s)) =
    let sq : w' * w' ≤ w * w = mul-le-mul hw hw in
    let l : p - w ≤ p' - w' = omega arith in
    let r : q - w ≤ q' - w' = omega arith in
    let pr : (p - w) * (q - w) ≤ (p' - w') * (q' - w') = mul-le-mul l r in
    (omega arith, (omega arith, omega arith))

pub slack_scale : (k : ℕ) {w p q : ℕ} → Slack w p q → Slack (k * w) (k * p) (k * q)
slack_scale k {w} {p} {q} (a, (b, s)) =
    (mul-le-mul_left k a, (mul-le-mul_left k b, rw (← mul-sub k p w, ← mul-sub k q w) (omega (arith, mul-le-mul_left (k * k) s))))

pub slack_unscale : (k : ℕ) {w p q : ℕ} → 0 < k → Slack (k * w) (k * p) (k * q) → Slack w p q
slack_unscale k {w} {p} {q} pk (a, (b, s)) =
    let s' : (k * w) * (k * w) ≤ 5 * ((k * (p - w)) * (k * (q - w))) = rw (mul-sub k p w, mul-sub k q w) s in
    let s'' : (k * k) * (w * w) ≤ (k * k) * (5 * ((p - w) * (q - w))) = omega arith in
    (le_of_mul-le-mul_left a pk, (le_of_mul-le-mul_left b pk, le_of_mul-le-mul_left s'' (mul-pos pk pk)))

-- n'/t' ≤ n/t and m'/r' ≤ m/r
pub tension_transfer : (r t n m r' t' n' m' : ℕ) → 0 < t → 0 < r
    → n' * t ≤ n * t' → m' * r ≤ m * r' → TensionWhole r t n m → TensionWhole r' t' n' m'
tension_transfer r t n m r' t' n' m' pt pr hn hm h =
    let a : (n' * t) * (r' * r) ≤ (n * t') * (r' * r) = mul-le-mul_right (r' * r) hn in
    let b : (m' * r) * (t' * t) ≤ (m * r') * (t' * t) = mul-le-mul_right (t' * t) hm in
    let k : (t' * r') * (n * r + m * t) ≤ (t' * r') * (t * r) = mul-le-mul_left (t' * r') h in
    let all : (t * r) * (n' * r' + m' * t') ≤ (t * r) * (t' * r') = omega arith in
    le_of_mul-le-mul_left all (mul-pos pt pr)

rest_le : (v y v' y' : ℕ) → y' * v ≤ y * v' → (v - y) * v' ≤ (v' - y') * v
rest_le v y v' y' h = rw (mul_comm (v - y) v', mul_comm (v' - y') v, mul-sub v' v y, mul-sub v v' y') (omega arith)

-- u/v ≤ u'/v', n'/e' ≤ n/e and n'/c' ≤ n/c
pub slack_transfer : (u v e c n u' v' e' c' n' : ℕ) → 0 < v → 0 < n → u * v' ≤ u' * v → n' * e ≤ n * e' → n' * c ≤ n * c'
    → Slack (n * v) (u * c) (u * e) → Slack (n' * v') (u' * c') (u' * e')
slack_transfer u v e c n u' v' e' c' n' pv pn hu he hc s =
    let s₁ : Slack (v * (n * v')) (v * (u' * c)) (v * (u' * e)) =
    slack_mono (omega arith) (omega (arith, mul-le-mul_right c hu)) (omega (arith, mul-le-mul_right e hu)) (slack_scale v' s) in
    let s₂ : Slack (n * (n' * v')) (n * (u' * c')) (n * (u' * e')) =
    slack_mono (omega arith) (omega (arith, mul-le-mul_right u' hc)) (omega (arith, mul-le-mul_right u' he))
    (slack_scale n' (slack_unscale v pv s₁)) in
    slack_unscale n pn s₂

-- m'/r' ≤ m/r, n'/e' ≤ n/e and n'/c' ≤ n/c
pub compression_transfer : (r e c n m r' e' c' n' m' : ℕ) → 0 < r → 0 < e' → 0 < n
    → m' * r ≤ m * r' → n' * e ≤ n * e' → n' * c ≤ n * c'
    → CompressionWhole r e c n m → CompressionWhole r' e' c' n' m'
compression_transfer r e c n m r' e' c' n' m' pr pe pn hm he hc (below, (room, slack)) =
    let below' : n' < e' = lt_of_mul-lt-mul_right e (omega (arith, mul-le-mul_right e' below)) in
    let gap : e' * (e - n) ≤ e * (e' - n') = rw (mul-sub e' e n, mul-sub e e' n') (omega arith) in
    let v : ℕ = r * (e - n) in
    let v' : ℕ = r' * (e' - n') in
    let pg : 0 < e - n = omega arith in
    let pv : 0 < v = mul-pos pr pg in
    let turn : (m' * e') * v ≤ (m * e) * v' = omega (arith, mul-le-mul hm gap) in
    let room' : m' * e' ≤ v' = le_of_mul-le-mul_right (omega (arith, mul-le-mul_right v' room)) pv in
    let hu : (v - m * e) * v' ≤ (v' - m' * e') * v = rest_le v (m * e) v' (m' * e') turn in
    (below', (room', slack_transfer (v - m * e) v e c n (v' - m' * e') v' e' c' n' pv pn hu he hc slack))
