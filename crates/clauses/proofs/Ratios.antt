-- Each clause turns on the ratios of forces to capacities, and what follows from that for any clause that does. Assumes nothing.
use Rattle.std.proofs.Common.{◌≡◌, ℕ, ◌*◌, ◌<◌, ℤ, pos, ◌*ℤ◌, nat_abs, mul-le-mul_right, mul-le-mul, mul-pos, le_of_mul-le-mul_right, arith}
use Rattle.exact.specs.Fraction.{Fraction, over, AtMost, times}
use Rattle.exact.specs.Laws.{Positive}
use Rattle.exact.specs.Signed.{size}
use Rattle.design_code.specs.Loads.{Load, Proper, SameLoad, GrowsLoad}
use Rattle.clauses.specs.Clauses.{Capacities, Bending, Shear, Tension, Compression, TensionMet, CompressionMet}
use Rattle.clauses.specs.Laws.{PositiveAll, AtMostAll, times_all, times_load, UsesLess, Lighter, Clause, TurnsOnRatios, ClauseLaws}
use Rattle.clauses.proofs.Algebra.{tension_transfer, compression_transfer}
use Rattle.clauses.proofs.Literally.{tension_whole, tension_literal, compression_whole, compression_literal}
use Rattle.clauses.proofs.Signs.{in_tension, of_tension, in_compression, of_compression, some_compression, grown_tension, grown_compression, same_grows, itself_grows, scaled_size, scaled_below, scaled_above, unscaled_below, unscaled_above}

uses_less : (x r y s : Fraction) → AtMost x y → AtMost s r → UsesLess x r y s
uses_less x r y s h k = omega (arith, mul-le-mul h k)

-- what is at most its capacity uses at most all of it
at_most_moves : (x r y s : Fraction) → 0 < y.den → 0 < s.num → UsesLess x r y s → AtMost y s → AtMost x r
at_most_moves x r y s py ps less h =
    le_of_mul-le-mul_right {k = y.den * s.num} (omega (arith, mul-le-mul_right (x.den * r.num) h)) (mul-pos py ps)

tension_moves : (c d : Capacities) (N M N' M' : Fraction) → PositiveAll c → 0 < N.den → 0 < M.den
    → UsesLess N' d.tension N c.tension → UsesLess M' d.moment M c.moment → TensionMet c N M → TensionMet d N' M'
tension_moves c d N M N' M' p n m hn hm h =
    tension_literal d N' M'
    (tension_transfer (c.moment.num * M.den) (c.tension.num * N.den) (N.num * c.tension.den) (M.num * c.moment.den)
    (d.moment.num * M'.den) (d.tension.num * N'.den) (N'.num * d.tension.den) (M'.num * d.moment.den)
    (mul-pos p.tension.num n) (mul-pos p.moment.num m) (omega arith) (omega arith) (tension_whole c N M h))

compression_moves : (c d : Capacities) (N M N' M' : Fraction) → PositiveAll c → PositiveAll d → Positive N → 0 < M.den → Positive N' → 0 < M'.den
    → UsesLess N' d.crushing N c.crushing → UsesLess N' d.buckling N c.buckling → UsesLess M' d.moment M c.moment
    → CompressionMet c N M → CompressionMet d N' M'
compression_moves c d N M N' M' p q n m n' m' hc he hm h =
    compression_literal d N' M' q.moment q.buckling q.crushing n' m'
    (compression_transfer (c.moment.num * M.den) (c.buckling.num * (c.crushing.den * N.den)) (c.crushing.num * (c.buckling.den * N.den))
    (N.num * (c.buckling.den * c.crushing.den)) (M.num * c.moment.den)
    (d.moment.num * M'.den) (d.buckling.num * (d.crushing.den * N'.den)) (d.crushing.num * (d.buckling.den * N'.den))
    (N'.num * (d.buckling.den * d.crushing.den)) (M'.num * d.moment.den)
    (mul-pos p.moment.num m) (mul-pos q.buckling.num (mul-pos q.crushing.den n'.den))
    (mul-pos n.num (mul-pos p.buckling.den p.crushing.den))
    (omega arith) (omega (arith, mul-le-mul_right (c.crushing.den * d.crushing.den) he))
    (omega (arith, mul-le-mul_right (c.buckling.den * d.buckling.den) hc))
    (compression_whole c N M p.moment p.buckling p.crushing n m h))

pub bending_turns : TurnsOnRatios Bending
bending_turns c d l m p q pl pm less = at_most_moves m.moment d.moment l.moment c.moment pl.moment p.moment.num less.moment

pub shear_turns : TurnsOnRatios Shear
shear_turns c d l m p q pl pm less = at_most_moves m.shear d.shear l.shear c.shear pl.shear p.shear.num less.shear

pub tension_turns : TurnsOnRatios Tension
tension_turns c d l m p q pl pm less h =
    in_tension m.axial.num (λ n. TensionMet d (over n m.axial.den) m.moment)
    (λ neg.
    let t = less.tension neg in
    tension_moves c d (size l.axial) l.moment (size m.axial) m.moment p pl.axial pl.moment t.1 less.moment
    (of_tension l.axial.num (λ n. TensionMet c (over n l.axial.den) l.moment) t.0 h))

pub compression_turns : TurnsOnRatios Compression
compression_turns c d l m p q pl pm less h =
    in_compression m.axial.num (λ n. CompressionMet d (over n m.axial.den) m.moment)
    (λ up.
    let t = less.compression up in
    compression_moves c d (size l.axial) l.moment (size m.axial) m.moment p q
    (record { num = some_compression l.axial.num t.0; den = pl.axial }) pl.moment
    (record { num = some_compression m.axial.num up; den = pm.axial }) pm.moment t.1 t.2 less.moment
    (of_compression l.axial.num (λ n. CompressionMet c (over n l.axial.den) l.moment) t.0 h))

-- larger capacities and a load that has not grown yet
lighter_by : (c d : Capacities) (l m : Load) → Proper l → AtMostAll c d → GrowsLoad m l → Lighter c l d m
lighter_by c d l m pl le grows = record {
  moment = uses_less m.moment d.moment l.moment c.moment grows.moment le.moment;
  shear = uses_less m.shear d.shear l.shear c.shear grows.shear le.shear;
  tension = λ neg.
      let g = grown_tension m.axial.den l.axial.den pl.axial m.axial.num l.axial.num grows.axial neg in
      (g.0, uses_less (size m.axial) d.tension (size l.axial) c.tension g.1 le.tension);
  compression = λ up.
      let g = grown_compression m.axial.den l.axial.den pl.axial m.axial.num l.axial.num grows.axial up in (
        g.0,
        uses_less (size m.axial) d.crushing (size l.axial) c.crushing g.1 le.crushing,
        uses_less (size m.axial) d.buckling (size l.axial) c.buckling g.1 le.buckling,
      );
}

itself_at_most : (c : Capacities) → AtMostAll c c
itself_at_most c = record { moment = omega arith; shear = omega arith; tension = omega arith; crushing = omega arith; buckling = omega arith }

itself_grown : (l : Load) → GrowsLoad l l
itself_grown l = record { axial = itself_grows l.axial; shear = omega arith; moment = omega arith }

same_grown : (l m : Load) → SameLoad l m → GrowsLoad m l
same_grown l m same =
    record { axial = same_grows l.axial m.axial same.axial; shear = same.shear.down; moment = same.moment.down }

-- x is k₁ a: a/d on t, and the same times k₁/k₂ on both
module _ (k₁ k₂ x a d : ℕ) (t : Fraction) (e : x ≡ k₁ * a) where
  up_uses_same : UsesLess (over x (k₂ * d)) (times (over k₁ k₂) t) (over a d) t
  up_uses_same = rw e (omega arith)

  down_uses_same : UsesLess (over a d) t (over x (k₂ * d)) (times (over k₁ k₂) t)
  down_uses_same = rw e (omega arith)

-- one factor on all
module _ (k : Fraction) (c : Capacities) (l : Load) (pk : Positive k) where
  abbrev z : ℤ
  z = l.axial.num

  abbrev whole_is : nat_abs (pos k.num *ℤ z) ≡ k.num * nat_abs z
  whole_is = scaled_size k.num pk.num z

  scaled_lighter : Lighter c l (times_all k c) (times_load k l)
  scaled_lighter = record {
    moment = omega arith;
    shear = omega arith;
    tension = λ neg.
        (unscaled_below k.num pk.num z neg, up_uses_same k.num k.den (nat_abs (pos k.num *ℤ z)) (nat_abs z) l.axial.den c.tension whole_is);
    compression = λ up. (
      unscaled_above k.num pk.num z up,
      up_uses_same k.num k.den (nat_abs (pos k.num *ℤ z)) (nat_abs z) l.axial.den c.crushing whole_is,
      up_uses_same k.num k.den (nat_abs (pos k.num *ℤ z)) (nat_abs z) l.axial.den c.buckling whole_is,
    );
  }

  unscaled_lighter : Lighter (times_all k c) (times_load k l) c l
  unscaled_lighter = record {
    moment = omega arith;
    shear = omega arith;
    tension = λ neg.
        (scaled_below k.num pk.num z neg, down_uses_same k.num k.den (nat_abs (pos k.num *ℤ z)) (nat_abs z) l.axial.den c.tension whole_is);
    compression = λ up. (
      scaled_above k.num pk.num z up,
      down_uses_same k.num k.den (nat_abs (pos k.num *ℤ z)) (nat_abs z) l.axial.den c.crushing whole_is,
      down_uses_same k.num k.den (nat_abs (pos k.num *ℤ z)) (nat_abs z) l.axial.den c.buckling whole_is,
    );
  }

scaled : (k f : Fraction) → Positive k → Positive f → Positive (times k f)
scaled k f p q = record { num = mul-pos p.num q.num; den = mul-pos p.den q.den }

pub scaled_all : (k : Fraction) (c : Capacities) → Positive k → PositiveAll c → PositiveAll (times_all k c)
scaled_all k c pk p = record {
  moment = scaled k c.moment pk p.moment;
  shear = scaled k c.shear pk p.shear;
  tension = scaled k c.tension pk p.tension;
  crushing = scaled k c.crushing pk p.crushing;
  buckling = scaled k c.buckling pk p.buckling;
}

pub scaled_proper : (k : Fraction) (l : Load) → Positive k → Proper l → Proper (times_load k l)
scaled_proper k l pk p =
    record { axial = mul-pos pk.den p.axial; shear = mul-pos pk.den p.shear; moment = mul-pos pk.den p.moment }

pub laws_from_ratios : (P : Clause) → TurnsOnRatios P → ClauseLaws P
laws_from_ratios P turns = record {
  turns_on_ratios = turns;
  holds_before = λ c l m p pl pm grows. turns c c m l p p pm pl (lighter_by c c m l pm (itself_at_most c) grows);
  stays_broken = λ c l m p pl pm grows broken h.
      broken (turns c c m l p p pm pl (lighter_by c c m l pm (itself_at_most c) grows) h);
  eases = λ c d l p q pl le. turns c d l l p q pl pl (lighter_by c d l l pl le (itself_grown l));
  scales = λ k c l pk p pl. (
    turns (times_all k c) c (times_load k l) l (scaled_all k c pk p) p (scaled_proper k l pk pl) pl (unscaled_lighter k c l pk),
    turns c (times_all k c) l (times_load k l) p (scaled_all k c pk p) pl (scaled_proper k l pk pl) (scaled_lighter k c l pk),
  );
  counts_alike = λ c l m p pl pm same. turns c c l m p p pl pm (lighter_by c c l m pl (itself_at_most c) (same_grown l m same));
}
