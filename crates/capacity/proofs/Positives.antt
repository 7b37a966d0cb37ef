-- Every capacity and every figure of a bundle is above 0, and every figure is small. Assumes nothing.
use Rattle.std.proofs.Common.{ℕ, ◌*◌, ◌^◌, ◌<◌, ◌≤◌, List, [], ◌∷◌, length, sum_by, lt_of_mul-lt-mul_right, mul-pos, arith}
use Rattle.exact.specs.Fraction.{Fraction, over, times, total_by}
use Rattle.exact.specs.Laws.{Positive}
use Rattle.exact.specs.Rounding.{Figured}
use Rattle.quantities.specs.declared.basis.DesignBasis.{DesignBasis}
use Rattle.quantities.specs.declared.readings.Readings.{Readings}
use Rattle.capacity.specs.Capacities.{moment_capacity, shear_capacity, axial_capacity, tension_capacity, crushing_capacity, least_straightness, buckling_capacity}
use Rattle.capacity.specs.Figures.{tension_figure, crushing_figure}
use Rattle.capacity.specs.Strengths.{factored_strength, factored_modulus}
use Rattle.capacity.specs.Terms.{ring_area, second_moment, section_modulus, shear_area}
use Rattle.capacity.proofs.Allowable.{strength_lies, modulus_lies}
use Rattle.capacity.proofs.Rounded.{area_small, axial_small, straightness_lies}
use Rattle.capacity.proofs.ShareSizes.{sum_large}
use Rattle.capacity.proofs.Sizes.{area_large, second_moment_large, cubes_beside}

times_positive : (a b : Fraction) → Positive a → Positive b → Positive (times a b)
times_positive a b p q = record { num = mul-pos p.num q.num; den = mul-pos p.den q.den }

module _ {X : Type 0} (f : X → Fraction) (each : (x : X) → Positive (f x)) where
  total_den : (xs : List X) → 0 < (total_by f xs).den
  total_den [] = omega arith
  total_den (x ∷ xs) = mul-pos (each x).den (total_den xs)

  total_positive : (xs : List X) → 0 < length xs → Positive (total_by f xs)
  total_positive [] some = absurd (omega arith)
  total_positive (x ∷ xs) some =
      record { num = omega (arith, mul-pos (each x).num (total_den xs)); den = mul-pos (each x).den (total_den xs) }

section_positive : (c : Readings) → Positive (section_modulus c)
section_positive c = record { num = omega (arith, second_moment_large c); den = omega arith }

shear_area_positive : (c : Readings) → Positive (shear_area c)
shear_area_positive c =
    let w : 0 < 3 * c.wall.value = omega arith in
    let g : 0 < second_moment c = omega (arith, second_moment_large c) in
    record { num = mul-pos w g; den = omega (arith, (cubes_beside c).some) }

module _ (p : Fraction) (pp : Positive p) (cs : List Readings) (b : DesignBasis) (some : 0 < length cs) where
  -- a factored strength times p, over a number
  factor_positive : (k d q : ℕ) → 9000 ≤ k → 0 < d → 0 < q → Positive (over (k * p.num * 1) (d * p.den * q))
  factor_positive k d q hk pd pq =
      let pk : 0 < k = omega arith in
      record { num = omega (arith, mul-pos pk pp.num); den = mul-pos (mul-pos pd pp.den) pq }

  pub moment_positive : Positive (moment_capacity p cs b)
  moment_positive =
      times_positive _ _ (factor_positive (factored_strength cs b b.grade.bending.value) 200000 32000000 (strength_lies cs b b.grade.bending).from (omega arith) (omega arith))
      (total_positive section_modulus section_positive cs some)

  pub shear_positive : Positive (shear_capacity p cs b)
  shear_positive =
      times_positive _ _ (factor_positive (factored_strength cs b b.grade.shear.value) 400000 100 (strength_lies cs b b.grade.shear).from (omega arith) (omega arith))
      (total_positive shear_area shear_area_positive cs some)

  axial_positive : (k : ℕ) → 9000 ≤ k → Positive (axial_capacity p (over k 200000) cs)
  axial_positive k hk =
      let a : 0 < sum_by ring_area cs = omega (arith, sum_large ring_area 18662 area_large cs) in
      times_positive _ _ (factor_positive k 200000 400 hk (omega arith) (omega arith)) (record { num = a; den = omega arith })

  pub tension_positive : Positive (tension_capacity p cs b)
  tension_positive = axial_positive (factored_strength cs b b.grade.tension.value) (strength_lies cs b b.grade.tension).from

  pub crushing_positive : Positive (crushing_capacity p cs b)
  crushing_positive = axial_positive (factored_strength cs b b.grade.compression.value) (strength_lies cs b b.grade.compression).from

  pub buckling_positive : Positive (buckling_capacity p cs b)
  buckling_positive =
      let cube : 0 < p.num * (p.num * p.num) = mul-pos pp.num (mul-pos pp.num pp.num) in
      let under : 0 < p.den * (p.den * p.den) = mul-pos pp.den (mul-pos pp.den pp.den) in
      let m : 0 < factored_modulus b = omega (arith, (modulus_lies b).from) in
      let w : 0 < least_straightness cs = omega (arith, (straightness_lies cs).from) in
      let g : 0 < sum_by second_moment cs = omega (arith, sum_large second_moment 4183900000 (λ c. omega (arith, second_moment_large c)) cs) in
      let l : 0 < b.length.value = omega arith in
      let span : 0 < b.length.value * b.length.value = mul-pos l l in
      record {
        num = omega (arith, mul-pos (mul-pos cube m) (mul-pos w g));
        den = omega (arith, mul-pos under span);
      }

-- a figure of a capacity above 0 is above 0
pub figure_some : (n s : ℕ) (low high : Fraction) → 0 < s → Positive high → Figured n s low high → 0 < n
figure_some n s low high ps ph f =
    lt_of_mul-lt-mul_right (1001 * high.den) (omega (arith, f.near, mul-pos ph.num ps))

module _ (cs : List Readings) (b : DesignBasis) (few : length cs ≤ 16) where
  pub tension_small : tension_figure cs b < 2 ^ 43
  tension_small =
      axial_small (factored_strength cs b b.grade.tension.value) (sum_by ring_area cs) (strength_lies cs b b.grade.tension).to (area_small cs few)

  pub crushing_small : crushing_figure cs b < 2 ^ 43
  crushing_small =
      axial_small (factored_strength cs b b.grade.compression.value) (sum_by ring_area cs) (strength_lies cs b b.grade.compression).to (area_small cs few)
