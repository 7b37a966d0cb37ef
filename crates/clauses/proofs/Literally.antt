-- The clauses as they are written, and on whole numbers over common denominators. Assumes nothing.
use Rattle.std.proofs.Common.{◌≡◌, ℕ, ◌-◌, ◌*◌, ◌<◌, ◌≤◌, sym, ap, mul-le-mul_right, lt_of_mul-lt-mul_right, mul-le-mul_left, mul-lt-mul_of_pos_right, mul-pos, le_of_mul-le-mul_right, arith}
use native.Mathlib.Nat.{mul-sub, le_of_mul-le-mul_left}
use Rattle.exact.specs.Fraction.{Fraction}
use Rattle.exact.specs.Laws.{Positive}
use Rattle.clauses.specs.Clauses.{Capacities, TensionMet, CompressionMet}
use Rattle.clauses.specs.Whole.{Slack, TensionWhole, CompressionWhole}
use Rattle.clauses.proofs.Algebra.{slack_transfer}

abbrev pub TensionAt : Capacities → (N M : Fraction) → Type 0
TensionAt c N M = TensionWhole (c.moment.num * M.den) (c.tension.num * N.den) (N.num * c.tension.den) (M.num * c.moment.den)

abbrev pub CompressionAt : Capacities → (N M : Fraction) → Type 0
CompressionAt c N M =
    CompressionWhole (c.moment.num * M.den) (c.buckling.num * (c.crushing.den * N.den)) (c.crushing.num * (c.buckling.den * N.den))
    (N.num * (c.buckling.den * c.crushing.den)) (M.num * c.moment.den)

pub tension_whole : (c : Capacities) (N M : Fraction) → TensionMet c N M → TensionAt c N M
tension_whole c N M h = omega arith

pub tension_literal : (c : Capacities) (N M : Fraction) → TensionAt c N M → TensionMet c N M
tension_literal c N M h = omega arith

-- the last part, with a and b for the two differences
module _ (n₁ n₂ e₂ c₂ w a b : ℕ) where
  last_whole : 0 < n₂ → (n₁ * n₁) * (1 * (((w * c₂) * n₂) * ((w * e₂) * n₂))) ≤ (5 * (a * b)) * (n₂ * n₂)
      → ((n₁ * (e₂ * c₂)) * w) * ((n₁ * (e₂ * c₂)) * w) ≤ 5 * ((e₂ * a) * (c₂ * b))
  last_whole pn h =
      let k : ((n₁ * n₁) * ((w * c₂) * (w * e₂))) * (n₂ * n₂) ≤ (5 * (a * b)) * (n₂ * n₂) = omega arith in
      omega (arith, mul-le-mul_right (e₂ * c₂) (le_of_mul-le-mul_right k (mul-pos pn pn)))

  last_literal : 0 < e₂ → 0 < c₂ → ((n₁ * (e₂ * c₂)) * w) * ((n₁ * (e₂ * c₂)) * w) ≤ 5 * ((e₂ * a) * (c₂ * b))
      → (n₁ * n₁) * (1 * (((w * c₂) * n₂) * ((w * e₂) * n₂))) ≤ (5 * (a * b)) * (n₂ * n₂)
  last_literal pe pc h =
      let k : ((n₁ * n₁) * ((w * c₂) * (w * e₂))) * (e₂ * c₂) ≤ (5 * (a * b)) * (e₂ * c₂) = omega arith in
      omega (arith, mul-le-mul_right (n₂ * n₂) (le_of_mul-le-mul_right k (mul-pos pe pc)))

-- the last three parts, with u/w for t
module _ (n₁ n₂ e₁ e₂ c₁ c₂ u w : ℕ) where
  gap_c : u * (c₁ * (e₂ * n₂)) - (n₁ * (e₂ * c₂)) * w ≡ e₂ * ((u * c₁) * n₂ - n₁ * (w * c₂))
  gap_c = rw (mul-sub e₂ ((u * c₁) * n₂) (n₁ * (w * c₂))) (omega arith)

  gap_e : u * (e₁ * (c₂ * n₂)) - (n₁ * (e₂ * c₂)) * w ≡ c₂ * ((u * e₁) * n₂ - n₁ * (w * e₂))
  gap_e = rw (mul-sub c₂ ((u * e₁) * n₂) (n₁ * (w * e₂))) (omega arith)

  abbrev Three : Type 0
  Three =
      (n₁ * (w * c₂) ≤ (u * c₁) * n₂) × (n₁ * (w * e₂) ≤ (u * e₁) * n₂)
      × ((n₁ * n₁) * (1 * (((w * c₂) * n₂) * ((w * e₂) * n₂))) ≤ (5 * (((u * c₁) * n₂ - n₁ * (w * c₂)) * ((u * e₁) * n₂ - n₁ * (w * e₂)))) * (n₂ * n₂))

  abbrev Whole : Type 0
  Whole = Slack ((n₁ * (e₂ * c₂)) * w) (u * (c₁ * (e₂ * n₂))) (u * (e₁ * (c₂ * n₂)))

  three_whole : 0 < n₂ → Three → Whole
  three_whole pn (a, b, s) =
      (omega (arith, mul-le-mul_right e₂ a), (omega (arith, mul-le-mul_right c₂ b), rw (gap_c, gap_e) (last_whole n₁ n₂ e₂ c₂ w _ _ pn s)))

  three_literal : 0 < e₂ → 0 < c₂ → Whole → Three
  three_literal pe pc (a, (b, s)) = (
    le_of_mul-le-mul_right {k = e₂} (omega arith) pe,
    le_of_mul-le-mul_right {k = c₂} (omega arith) pc,
    last_literal n₁ n₂ e₂ c₂ w _ _ pe pc (rw (gap_c, gap_e) at s),
  )

same_ratio : (c e u w u' v' : ℕ) → 0 < c → c * u ≡ e * u' → c * w ≡ e * v' → u * v' ≤ u' * w
same_ratio c e u w u' v' pc p q =
    let k : c * (u * v') ≤ c * (u' * w) = omega (arith, ap (λ x. x * v') p, ap (λ x. u' * x) q) in
    le_of_mul-le-mul_left k pc

-- t as it is written, (w − z)/w, and on whole numbers, (v − y)/v
module _ (r₁ r₂ e₁ e₂ c₂ n₁ n₂ m₁ m₂ : ℕ) where
  abbrev v : ℕ
  v = (r₁ * m₂) * (e₁ * (c₂ * n₂) - n₁ * (e₂ * c₂))

  abbrev y : ℕ
  y = (m₁ * r₂) * (e₁ * (c₂ * n₂))

  abbrev w : ℕ
  w = (m₂ * e₂) * (r₁ * (e₁ * n₂ - n₁ * e₂))

  abbrev z : ℕ
  z = (m₁ * e₁) * (r₂ * (e₂ * n₂))

  same_w : c₂ * (1 * w) ≡ e₂ * v
  same_w =
      let g : c₂ * (e₁ * n₂ - n₁ * e₂) ≡ e₁ * (c₂ * n₂) - n₁ * (e₂ * c₂) = rw (mul-sub c₂ (e₁ * n₂) (n₁ * e₂)) (omega arith) in
      omega (arith, ap (λ x. (e₂ * (r₁ * m₂)) * x) g)

  same_u : c₂ * (1 * w - z * 1) ≡ e₂ * (v - y)
  same_u = rw (mul-sub c₂ (1 * w) (z * 1), mul-sub e₂ v y) (omega (arith, same_w))

slack_turn : (n e c u v u' v' : ℕ) → 0 < v → 0 < n → u * v' ≤ u' * v → Slack (n * v) (u * c) (u * e) → Slack (n * v') (u' * c) (u' * e)
slack_turn n e c u v u' v' pv pn h s = slack_transfer u v e c n u' v' e c n pv pn h (omega arith) (omega arith) s

module _ (k : Capacities) (N M : Fraction) (r : Positive k.moment) (e : Positive k.buckling) (c : Positive k.crushing)
    (n : Positive N) (pm : 0 < M.den) where
  abbrev R : Fraction
  R = k.moment

  abbrev E : Fraction
  E = k.buckling

  abbrev C : Fraction
  C = k.crushing

  abbrev V : ℕ
  V = v R.num R.den E.num E.den C.den N.num N.den M.num M.den

  abbrev Y : ℕ
  Y = y R.num R.den E.num E.den C.den N.num N.den M.num M.den

  abbrev W : ℕ
  W = 1 * w R.num R.den E.num E.den C.den N.num N.den M.num M.den

  abbrev U : ℕ
  U = W - z R.num R.den E.num E.den C.den N.num N.den M.num M.den * 1

  W-is : C.den * W ≡ E.den * V
  W-is = same_w R.num R.den E.num E.den C.den N.num N.den M.num M.den

  U-is : C.den * U ≡ E.den * (V - Y)
  U-is = same_u R.num R.den E.num E.den C.den N.num N.den M.num M.den

  axial_some : 0 < N.num * (E.den * C.den)
  axial_some = mul-pos n.num (mul-pos e.den c.den)

  pub compression_whole : CompressionMet k N M → CompressionAt k N M
  compression_whole h =
      let below = h.stable in
      let gap : 0 < E.num * N.den - N.num * E.den = omega arith in
      let pW : 0 < W = omega (arith, mul-pos (mul-pos pm e.den) (mul-pos r.num gap)) in (
        omega (arith, mul-lt-mul_of_pos_right below c.den),
        (
          le_of_mul-le-mul_left {k = E.den} (omega (arith, W-is, mul-le-mul_left C.den h.bent)) e.den,
          slack_turn (N.num * (E.den * C.den)) (E.num * (C.den * N.den)) (C.num * (E.den * N.den)) U W (V - Y) V pW axial_some
              (same_ratio C.den E.den U W (V - Y) V c.den U-is W-is)
              (three_whole N.num N.den E.num E.den C.num C.den U W n.den (h.crushed, h.buckled, h.together)),
        ),
      )

  pub compression_literal : CompressionAt k N M → CompressionMet k N M
  compression_literal (below, (room, slack)) =
      let gap : 0 < E.num * (C.den * N.den) - N.num * (E.den * C.den) = omega arith in
      let pV : 0 < V = mul-pos (mul-pos r.num pm) gap in
      let three =
      three_literal N.num N.den E.num E.den C.num C.den U W e.den c.den
      (slack_turn (N.num * (E.den * C.den)) (E.num * (C.den * N.den)) (C.num * (E.den * N.den)) (V - Y) V U W pV axial_some
      (same_ratio E.den C.den (V - Y) V U W e.den (sym U-is) (sym W-is)) slack) in
      record {
        stable = lt_of_mul-lt-mul_right C.den (omega arith);
        bent = le_of_mul-le-mul_left {k = C.den} (omega (arith, W-is, mul-le-mul_left E.den room)) c.den;
        crushed = three.0;
        buckled = three.1;
        together = three.2;
      }
