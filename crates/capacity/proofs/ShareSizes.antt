-- How large and how small the shares of a culm are. Assumes nothing.
use Rattle.std.proofs.Common.{◌≡◌, ℕ, ◌*◌, ◌/◌, ◌^◌, ◌<◌, ◌≤◌, List, [], ◌∷◌, length, slice_index_or, sum_by, ◌∙◌, ap₂, mul-le-mul_right, mul-le-mul, arith}
use Rattle.std.proofs.lemmas.List.Sums.{sum_by-le, sum_by-cons}
use Rattle.std.proofs.lemmas.Nat.{div_below, le-div}
use Rattle.quantities.specs.declared.readings.Readings.{Readings}
use Rattle.capacity.specs.Shares.{moment_share, shear_share}
use Rattle.capacity.specs.Terms.{outer_diameter, ring_area, cubes, second_moment}
use Rattle.capacity.proofs.Sizes.{square_le, cube_le, fourth_le, second_moment_large, cubes_beside}

pub second_moment_small : (c : Readings) → second_moment c ≤ 7988005999 * outer_diameter c
second_moment_small c =
    let h : outer_diameter c ≤ 1999 = omega arith in
    omega (arith, mul-le-mul_right (outer_diameter c) (cube_le h))

pub moment_share_small : (k : ℕ) → k ≤ 22000000 → (c : Readings) → moment_share k c < 2 ^ 32
moment_share_small k hk c =
    div_below (32768 * (k * 314159265 * 1 * second_moment c)) (1 * (640000000000000000000 * outer_diameter c)) (2 ^ 32) (omega arith)
    (omega (arith, mul-le-mul hk (second_moment_small c)))

pub moment_share_large : (k : ℕ) → 9000 ≤ k → (c : Readings) → 2000 ≤ moment_share k c
moment_share_large k hk c =
    le-div 2000 (32768 * (k * 314159265 * 1 * second_moment c)) (1 * (640000000000000000000 * outer_diameter c)) (omega arith)
    (omega (arith, mul-le-mul hk (second_moment_large c)))

pub shear_share_small : (k : ℕ) → k ≤ 22000000 → (c : Readings) → shear_share k c < 2 ^ 37
shear_share_small k hk c =
    let at = cubes_beside c in
    let w : c.wall.value ≤ 299 = omega arith in
    let d : outer_diameter c ≤ 1999 = omega arith in
    let a : c.wall.value * second_moment c ≤ 299 * (3998 * cubes c) = mul-le-mul w (omega (arith, at.above, mul-le-mul_right (cubes c) d)) in
    div_below (65536 * (k * 314159265 * 1 * (3 * c.wall.value * second_moment c))) (1 * (4000000000000000 * (8 * cubes c))) (2 ^ 37)
    (omega (arith, at.some)) (omega (arith, mul-le-mul hk a, at.some))

pub shear_share_large : (k : ℕ) → 9000 ≤ k → (c : Readings) → 2000 ≤ shear_share k c
shear_share_large k hk c =
    let at = cubes_beside c in
    let w : 31 ≤ c.wall.value = omega arith in
    let d : 301 ≤ outer_diameter c = omega arith in
    let a : 31 * (301 * cubes c) ≤ c.wall.value * second_moment c = mul-le-mul w (omega (arith, at.below, mul-le-mul_right (cubes c) d)) in
    le-div 2000 (65536 * (k * 314159265 * 1 * (3 * c.wall.value * second_moment c))) (1 * (4000000000000000 * (8 * cubes c)))
    (omega (arith, at.some)) (omega (arith, mul-le-mul hk a))

pub ring_area_small : (c : Readings) → ring_area c ≤ 3996001
ring_area_small c = let h : outer_diameter c ≤ 1999 = omega arith in omega (arith, square_le h)

pub second_moment_most : (c : Readings) → second_moment c ≤ 15968023992001
second_moment_most c = let h : outer_diameter c ≤ 1999 = omega arith in omega (arith, fourth_le h)

-- sums over a list of what is bounded each time
pub sum_small : {X : Type 0} (f : X → ℕ) (b : ℕ) → ((x : X) → f x ≤ b) → (xs : List X) → sum_by f xs ≤ length xs * b
sum_small f b h xs = sum_by-le f b xs (λ k d _. h (slice_index_or xs k d))

pub sum_large : {X : Type 0} (f : X → ℕ) (b : ℕ) → ((x : X) → b ≤ f x) → (xs : List X) → b * length xs ≤ sum_by f xs
sum_large f b h [] = omega arith
sum_large f b h (x ∷ xs) = rw (sum_by-cons f x xs) (omega (arith, h x, sum_large f b h xs))

-- the quotient that the code forms, from factors k', s', n' and d' that are k, s, n and d
pub share_is : (p q : ℕ) {k' s' n' d' k s n d : ℕ} → k' ≡ k → s' ≡ s → n' ≡ n → d' ≡ d
    → k' * p * s' * n' / (d' * q) ≡ s * (k * p * 1 * n) / (1 * (q * d))
share_is p q {n' = n'} {d' = d'} {k = k} {s = s} ek es en ed =
    ap₂ (λ x y. x * p * y * n' / (d' * q)) ek es ∙ ap₂ (λ x y. k * p * s * x / (y * q)) en ed ∙ ap₂ (λ x y. x / y) (omega arith) (omega arith)
