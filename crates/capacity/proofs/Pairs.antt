-- A figure gives a told pair. Assumes nothing.
use Rattle.std.proofs.Common.{◌≡◌, ℕ, ◌+◌, ◌*◌, ◌/◌, ◌<◌, ◌≤◌, List, mul-le-mul_right, div-mul-le_self, arith}
use native.Mathlib.Nat.{lt-div-mul-add, le_of_mul-le-mul_left, lt_of_mul-lt-mul_left}
use Rattle.exact.specs.Fraction.{Fraction, whole, AtMost}
use Rattle.exact.specs.Rounding.{Figured}
use Rattle.quantities.specs.declared.basis.DesignBasis.{DesignBasis}
use Rattle.quantities.specs.declared.readings.Readings.{Readings}
use Rattle.exact.specs.Pi.{lower_pi, upper_pi}
use Rattle.capacity.specs.Told.{capacity_of, Tells}
use Rattle.capacity.specs.declared.told.Capacity.{Capacity}
use Rattle.capacity.specs.declared.told.Told.{Told}

module _ (f s : ℕ) (some : 0 < s) (low high : Fraction) (figure : Figured f s low high) where
  pub lower : AtMost (whole (f / s)) low
  lower =
      let h : s * (f / s * low.den) ≤ s * (low.num * 1) = omega (arith, figure.below, mul-le-mul_right low.den (div-mul-le_self f s)) in
      le_of_mul-le-mul_left h some

  pub upper : AtMost high (whole (f * 1001 / (s * 1000) + 1))
  upper =
      let n : ℕ = f * 1001 / (s * 1000) in
      let per : 0 < s * 1000 = omega arith in
      let up : f * 1001 ≤ (n + 1) * (s * 1000) = omega (arith, lt-div-mul-add {a = f * 1001} per) in
      let h : (s * 1000) * (high.num * 1) ≤ (s * 1000) * ((n + 1) * high.den) = omega (arith, figure.near, mul-le-mul_right high.den up) in
      le_of_mul-le-mul_left h per

pub close : (f s : ℕ) → 0 < s → f * 1001 / (s * 1000) + 1 ≤ f / s + f / s / 1000 + 2
close f s some =
    let n : ℕ = f * 1001 / (s * 1000) in
    let q : ℕ = f / s in
    let down : n * (s * 1000) ≤ f * 1001 = div-mul-le_self (f * 1001) (s * 1000) in
    let up : f < q * s + s = lt-div-mul-add {a = f} some in
    let h : s * (n * 1000) < s * ((q + 1) * 1001) = omega arith in
    let k : n * 1000 < (q + 1) * 1001 = lt_of_mul-lt-mul_left s h in
    omega arith

-- s' is what the code divides by, which is the scale s
pub tells : (f : ℕ) {s s' : ℕ} → s' ≡ s → 0 < s → (low high : Fraction) → Figured f s low high
    → Tells (record { lower = f / s'; upper = f * 1001 / (s' * 1000) + 1 }) low high
tells f {s} e some low high figure = rw e (record {
  lower = lower f s some low high figure;
  upper = upper f s some low high figure;
  close = close f s some;
})

pub tells_at : {k : Capacity} (j : Capacity) → k ≡ j → (t : Told) (cs : List Readings) (b : DesignBasis)
    → Tells t (capacity_of j lower_pi cs b) (capacity_of j upper_pi cs b) → Tells t (capacity_of k lower_pi cs b) (capacity_of k upper_pi cs b)
tells_at j e t cs b h = rw e h
