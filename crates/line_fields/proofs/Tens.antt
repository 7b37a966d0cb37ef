use Rattle.std.proofs.Common.{ℕ, ◌^◌, ◌<◌, ◌≤◌, arith}
use Rattle.std.proofs.Math.Nat.{pow-le-pow_right}

pub ten_power_le : (i k : ℕ) → i ≤ k → 10 ^ i ≤ 10 ^ k
ten_power_le i k h = let positive : 0 < 10 = omega arith in pow-le-pow_right positive h
