-- The order of fractions. Assumes nothing.
use Rattle.std.proofs.Common.{◌≡◌, ℕ, ◌+◌, ◌-◌, ◌*◌, ◌<◌, List, [], ◌∷◌, sum_by, refl, ap, mul-le-mul_right, mul-le-mul, lt_of_not-le, le_of_mul-le-mul_right, arith}
use Rattle.std.proofs.lemmas.List.Sums.{sum_by-cons}
use Rattle.exact.specs.Fraction.{Fraction, whole, AtMost, total_by}
use Rattle.exact.specs.Laws.{Same, FractionLaws}

pub at_most_trans : (a b c : Fraction) → 0 < b.den → AtMost a b → AtMost b c → AtMost a c
at_most_trans a b c pb ab bc =
    le_of_mul-le-mul_right {k = b.den} (omega (arith, mul-le-mul_right c.den ab, mul-le-mul_right a.den bc)) pb

-- a difference x, which gives u when v is added
back : (x u v y d : ℕ) → x + v ≡ u → (x * d + v * d) * y ≡ u * d * y
back x u v y d e = omega (arith, ap (λ n. n * (d * y)) e)

-- a fraction that is n and is written so
record Whole (x : Fraction) (n : ℕ) : Type 0 where
  num : x.num ≡ n
  den : x.den ≡ 1

total_whole : (f : ℕ → ℕ) (ns : List ℕ) → Whole (total_by (λ n. whole (f n)) ns) (sum_by f ns)
total_whole f [] = record { num = refl; den = refl }
total_whole f (n ∷ ns) =
    let rest = total_whole f ns in
    record { num = omega (arith, rest.num, ap (λ d. f n * d) rest.den, sum_by-cons f n ns); den = omega (arith, rest.den) }

whole_same : (x : Fraction) (n : ℕ) → Whole x n → Same x (whole n)
whole_same x n h = record {
  up = omega (arith, h.num, ap (λ d. n * d) h.den);
  down = omega (arith, h.num, ap (λ d. n * d) h.den);
}

pub laws : FractionLaws
laws = record {
  wholes_in_order = λ m n h. omega arith;
  wholes_in_no_other_order = λ m n h. omega arith;
  transitive = at_most_trans;
  under_is_not_at_least = λ a b u h. omega arith;
  at_most_or_over = λ a b h. lt_of_not-le h;
  sums_of_wholes = λ m n. record { up = omega arith; down = omega arith };
  totals_of_wholes = λ f ns. whole_same (total_by (λ n. whole (f n)) ns) (sum_by f ns) (total_whole f ns);
  products_of_wholes = λ m n. record { up = omega arith; down = omega arith };
  sums_grow = λ a b c d h k. omega (arith, mul-le-mul_right (c.den * d.den) h, mul-le-mul_right (a.den * b.den) k);
  products_grow = λ a b c d h k. omega (arith, mul-le-mul h k);
  difference_and_back = λ a b h.
      let d : ℕ = a.num * b.den - b.num * a.den in
      let e : d + b.num * a.den ≡ a.num * b.den = omega arith in
      let k = back d (a.num * b.den) (b.num * a.den) a.den b.den e in
      record { up = omega arith; down = omega arith };
  quotient_and_back = λ a b. record { up = omega arith; down = omega arith };
}
