-- Each figure stands for its capacity from below, and how large it can be. Assumes nothing.
use Rattle.std.proofs.Common.{ℕ, ◌*◌, ◌^◌, ◌<◌, ◌≤◌, min, List, [], ◌∷◌, length, fold, sum_by, mul-le-mul, arith}
use Rattle.std.proofs.lemmas.Nat.{div_below, le-div}
use Rattle.exact.specs.Fraction.{over}
use Rattle.exact.specs.Rounding.{Figured}
use Rattle.exact.proofs.Rounding.{figured_sum, figured_once}
use Rattle.quantities.specs.declared.basis.DesignBasis.{DesignBasis}
use Rattle.quantities.specs.declared.readings.Readings.{Readings}
use Rattle.exact.specs.Pi.{lower_pi, upper_pi}
use Rattle.capacity.specs.Capacities.{moment_factor, moment_capacity, shear_factor, shear_capacity, axial_capacity, tension_capacity, crushing_capacity, least_straightness, buckling_from, buckling_capacity}
use Rattle.capacity.specs.Figures.{moment_figure, shear_figure, tension_figure, crushing_figure, cube_below, buckling_figure}
use Rattle.capacity.specs.Shares.{moment_share, shear_share, axial_share, buckling_share}
use Rattle.capacity.specs.Strengths.{bending_strength, shear_strength, factored_strength, factored_modulus}
use Rattle.capacity.specs.Terms.{ring_area, second_moment, section_modulus, shear_area}
use Rattle.capacity.proofs.Allowable.{Lies, product_lies, in_range, strength_lies, modulus_lies}
use Rattle.capacity.proofs.ShareSizes.{moment_share_small, moment_share_large, shear_share_small, shear_share_large, ring_area_small, second_moment_most, sum_small, sum_large}
use Rattle.capacity.proofs.Sizes.{area_large, second_moment_large, cubes_beside}

module _ (cs : List Readings) (b : DesignBasis) where
  pub moment_figured : Figured (moment_figure cs b) 32768 (moment_capacity lower_pi cs b) (moment_capacity upper_pi cs b)
  moment_figured =
      figured_sum 32768 (moment_factor lower_pi (bending_strength cs b)) section_modulus (omega arith) (λ c. omega arith)
      (moment_share_large (factored_strength cs b b.grade.bending.value) (strength_lies cs b b.grade.bending).from)
      (moment_factor upper_pi (bending_strength cs b)) (omega arith) cs

  pub shear_figured : Figured (shear_figure cs b) 65536 (shear_capacity lower_pi cs b) (shear_capacity upper_pi cs b)
  shear_figured =
      figured_sum 65536 (shear_factor lower_pi (shear_strength cs b)) shear_area (omega arith) (λ c. omega (arith, (cubes_beside c).some))
      (shear_share_large (factored_strength cs b b.grade.shear.value) (strength_lies cs b b.grade.shear).from)
      (shear_factor upper_pi (shear_strength cs b)) (omega arith) cs

  module _ (few : length cs ≤ 16) where
    pub moment_small : moment_figure cs b < 2 ^ 36
    moment_small =
        let k : ℕ = factored_strength cs b b.grade.bending.value in
        let small : (c : Readings) → moment_share k c ≤ 4294967295 =
        λ c. omega (arith, moment_share_small k (strength_lies cs b b.grade.bending).to c) in
        omega (arith, sum_small (moment_share k) 4294967295 small cs)

    pub shear_small : shear_figure cs b < 2 ^ 41
    shear_small =
        let k : ℕ = factored_strength cs b b.grade.shear.value in
        let small : (c : Readings) → shear_share k c ≤ 137438953471 =
        λ c. omega (arith, shear_share_small k (strength_lies cs b b.grade.shear).to c) in
        omega (arith, sum_small (shear_share k) 137438953471 small cs)

pub area_small : (cs : List Readings) → length cs ≤ 16 → sum_by ring_area cs ≤ 63936016
area_small cs few = omega (arith, sum_small ring_area 3996001 ring_area_small cs)

pub axial_small : (k a : ℕ) → k ≤ 22000000 → a ≤ 63936016 → axial_share k a < 2 ^ 43
axial_small k a hk ha =
    div_below (65536 * (k * 314159265 * 1 * a)) (1 * (8000000000000000 * 1)) (2 ^ 43) (omega arith) (omega (arith, mul-le-mul hk ha))

pub axial_figured : (k : ℕ) (cs : List Readings) → 9000 ≤ k → 0 < length cs
    → Figured (axial_share k (sum_by ring_area cs)) 65536 (axial_capacity lower_pi (over k 200000) cs) (axial_capacity upper_pi (over k 200000) cs)
axial_figured k cs hk some =
    let a : ℕ = sum_by ring_area cs in
    let large : 18662 ≤ a = omega (arith, sum_large ring_area 18662 area_large cs) in
    figured_once 65536 (axial_capacity lower_pi (over k 200000) cs) (omega arith) (axial_capacity lower_pi (over k 200000) cs)
    (axial_capacity upper_pi (over k 200000) cs) (omega arith) (omega arith)
    (le-div 2000 (65536 * (k * 314159265 * 1 * a)) (1 * (8000000000000000 * 1)) (omega arith) (omega (arith, mul-le-mul hk large)))

module _ (cs : List Readings) (b : DesignBasis) (some : 0 < length cs) where
  pub tension_figured : Figured (tension_figure cs b) 65536 (tension_capacity lower_pi cs b) (tension_capacity upper_pi cs b)
  tension_figured = axial_figured (factored_strength cs b b.grade.tension.value) cs (strength_lies cs b b.grade.tension).from some

  pub crushing_figured : Figured (crushing_figure cs b) 65536 (crushing_capacity lower_pi cs b) (crushing_capacity upper_pi cs b)
  crushing_figured = axial_figured (factored_strength cs b b.grade.compression.value) cs (strength_lies cs b b.grade.compression).from some

-- m for modulus, w for straightness, g for second moment, l for length
module _ (m w g l : ℕ) (hm : Lies 2000 200000 m) (hw : Lies 10 100 w) (hg : Lies 4183900000 255488383872016 g) (hl : Lies 500 8000 l) where
  pub stiffness : Lies 83678000000000 5109767677440320000000 (m * w * g)
  stiffness = product_lies (product_lies hm hw) hg

  pub span : Lies 250000 64000000 (l * l)
  span = product_lies hl hl

  abbrev over_span : ℕ
  over_span = 65536 * (31006276 * m * (w * g) * 1)

  abbrev under_span : ℕ
  under_span = 1 * (1000000 * 10 * (100 * 1) * (640000 * (l * l)))

  pub buckling_small : buckling_share m w g l < 2 ^ 46
  buckling_small = div_below over_span under_span (2 ^ 46) (omega (arith, span)) (omega (arith, stiffness, span))

  pub buckling_large : 2000 ≤ buckling_share m w g l
  buckling_large = le-div 2000 over_span under_span (omega (arith, span)) (omega (arith, stiffness, span))

least_from : (cs : List Readings) (a : ℕ) → Lies 10 100 a → Lies 10 100 (fold (λ least c. min least c.straightness.value) a cs)
least_from [] a h = h
least_from (c ∷ cs) a h = least_from cs (min a c.straightness.value) (record { from = omega (arith, h.from); to = omega (arith, h.to) })

module _ (cs : List Readings) where
  pub straightness_lies : Lies 10 100 (least_straightness cs)
  straightness_lies = least_from cs 100 (record { from = omega arith; to = omega arith })

  module _ (some : 0 < length cs) (few : length cs ≤ 16) where
    pub second_moment_lies : Lies 4183900000 255488383872016 (sum_by second_moment cs)
    second_moment_lies = record {
      from = omega (arith, sum_large second_moment 4183900000 (λ c. omega (arith, second_moment_large c)) cs);
      to = omega (arith, sum_small second_moment 15968023992001 second_moment_most cs);
    }

    module _ (b : DesignBasis) where
      pub buckling_figure_small : buckling_figure cs b < 2 ^ 46
      buckling_figure_small =
          buckling_small (factored_modulus b) (least_straightness cs) (sum_by second_moment cs) b.length.value (modulus_lies b) straightness_lies
          second_moment_lies (in_range b.length)

      pub buckling_figured : Figured (buckling_figure cs b) 65536 (buckling_capacity lower_pi cs b) (buckling_capacity upper_pi cs b)
      buckling_figured =
          let large =
          buckling_large (factored_modulus b) (least_straightness cs) (sum_by second_moment cs) b.length.value (modulus_lies b) straightness_lies
          second_moment_lies (in_range b.length) in
          figured_once 65536 (buckling_from cube_below cs b) (omega arith) (buckling_capacity lower_pi cs b) (buckling_capacity upper_pi cs b) (omega arith)
          (omega arith) large
