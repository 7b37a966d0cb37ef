-- How large and how small the terms of a culm are. Assumes nothing.
use Rattle.std.proofs.Common.{◌≡◌, ℕ, ◌+◌, ◌-◌, ◌*◌, ◌^◌, ◌<◌, ◌≤◌, ap, ◌∙◌, subst, mul-le-mul_right, mul-le-mul, arith}
use Rattle.std.proofs.Math.Nat.{pow-suc, pow-zero, pow-le-pow_left}
use native.Mathlib.Nat.{lt_of_mul-lt-mul_left}
use Rattle.quantities.specs.declared.readings.Readings.{Readings}
use Rattle.capacity.specs.Terms.{outer_diameter, inner_diameter, ring_area, cubes, second_moment}

pub square_le : {x y : ℕ} → x ≤ y → x * x ≤ y * y
square_le h = mul-le-mul h h

pub cube_le : {x y : ℕ} → x ≤ y → x * x * x ≤ y * y * y
cube_le h = mul-le-mul (square_le h) h

pub fourth_le : {x y : ℕ} → x ≤ y → x * x * x * x ≤ y * y * y * y
fourth_le h = mul-le-mul (cube_le h) h

pub power_le : {x y : ℕ} (n : ℕ) → x ≤ y → x ^ n ≤ y ^ n
power_le n h = pow-le-pow_left h n

-- the powers of the code are the products of the definitions
square_is : (x : ℕ) → x ^ 2 ≡ x * x
square_is x = pow-suc x 1 ∙ ap (λ n. n * x) (pow-suc x 0 ∙ omega (arith, ap (λ n. n * x) (pow-zero x)))

pub cube_is : (x : ℕ) → x ^ 3 ≡ x * x * x
cube_is x = pow-suc x 2 ∙ ap (λ n. n * x) (square_is x)

pub fourth_is : (x : ℕ) → x ^ 4 ≡ x * x * x * x
fourth_is x = pow-suc x 3 ∙ ap (λ n. n * x) (cube_is x)

pub inner_le : (c : Readings) → inner_diameter c ≤ outer_diameter c
inner_le c = omega arith

-- the second moment beside its diameter, x past the narrowest
narrowest : (x : ℕ) → 13900000 * (301 + x) + (239 + x) * (239 + x) * (239 + x) * (239 + x) ≤ (301 + x) * (301 + x) * (301 + x) * (301 + x)
narrowest x = omega arith

from_narrowest : (d x : ℕ) → d ≡ 301 + x → 13900000 * d + (239 + x) * (239 + x) * (239 + x) * (239 + x) ≤ d * d * d * d
from_narrowest d x e = rw e (narrowest x)

pub second_moment_large : (c : Readings) → 13900000 * outer_diameter c ≤ second_moment c
second_moment_large c =
    let x : ℕ = outer_diameter c - 301 in
    let e : outer_diameter c ≡ 301 + x = omega arith in
    let i : inner_diameter c ≤ 239 + x = omega arith in
    omega (arith, fourth_le i, from_narrowest (outer_diameter c) x e)

pub area_large : (c : Readings) → 18662 ≤ ring_area c
area_large c =
    let x : ℕ = outer_diameter c - 62 in
    let i : inner_diameter c ≤ x = omega arith in
    let e : outer_diameter c ≡ x + 62 = omega arith in
    omega (arith, mul-le-mul i (inner_le c), ap (λ n. n * outer_diameter c) e)

spread : (d x : ℕ) → 2 * ((d + x) * (d * d * d)) ≤ (d + x) * (d + x) * (d + x) * (d + x) + d * d * d * d
spread d x = omega arith

spread_at : (D d : ℕ) → d ≤ D → 2 * (D * (d * d * d)) ≤ D * D * D * D + d * d * d * d
spread_at D d h =
    let P : ℕ → Type 0 = λ n. 2 * (n * (d * d * d)) ≤ n * n * n * n + d * d * d * d in
    let e : d + (D - d) ≡ D = omega arith in
    subst P e (spread d (D - d))

-- t for the difference of the cubes, g for that of the fourth powers
module _ (D d t g : ℕ) (h : d ≤ D) (et : t + d * d * d ≡ D * D * D) (eg : g + d * d * d * d ≡ D * D * D * D) where
  cubes_below : D * t ≤ g
  cubes_below = omega (arith, ap (λ n. D * n) et, mul-le-mul_right (d * d * d) h)

  cubes_above : g ≤ 2 * (D * t)
  cubes_above = omega (arith, ap (λ n. D * n) et, spread_at D d h)

pub record CubesBeside (c : Readings) : Type 0 where
  pub below : outer_diameter c * cubes c ≤ second_moment c
  pub above : second_moment c ≤ 2 * (outer_diameter c * cubes c)
  pub some : 0 < cubes c

pub cubes_beside : (c : Readings) → CubesBeside c
cubes_beside c =
    let h = inner_le c in
    let et : cubes c + inner_diameter c * inner_diameter c * inner_diameter c ≡ outer_diameter c * outer_diameter c * outer_diameter c =
    omega (arith, cube_le h) in
    let eg : second_moment c + inner_diameter c * inner_diameter c * inner_diameter c * inner_diameter c ≡ outer_diameter c * outer_diameter c * outer_diameter c * outer_diameter c =
    omega (arith, fourth_le h) in
    let up = cubes_above (outer_diameter c) (inner_diameter c) (cubes c) (second_moment c) h et eg in
    let some : outer_diameter c * 0 < outer_diameter c * cubes c = omega (arith, second_moment_large c) in
    record {
      below = cubes_below (outer_diameter c) (inner_diameter c) (cubes c) (second_moment c) h et eg;
      above = up;
      some = lt_of_mul-lt-mul_left (outer_diameter c) some;
    }
