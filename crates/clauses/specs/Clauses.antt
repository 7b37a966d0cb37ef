-- The four clauses between the capacities of a bundle and its load, as exact relations. Assumes nothing.
use Rattle.std.specs.Prelude.{ℕ, zero, suc, ℤ, pos, negsuc}
use Rattle.exact.specs.Fraction.{Fraction, over, whole, AtMost, Under, plus, times, minus, quotient}
use Rattle.design_code.specs.Loads.{Load}

-- M_r, V_r, N_t, P_c and P_e
pub record Capacities : Type 0 where
  pub moment : Fraction
  pub shear : Fraction
  pub tension : Fraction
  pub crushing : Fraction
  pub buckling : Fraction

-- 1. M ≤ M_r
abbrev pub Bending : Capacities → Load → Type 0
Bending c l = AtMost l.moment c.moment

-- 2. V ≤ V_r
abbrev pub Shear : Capacities → Load → Type 0
Shear c l = AtMost l.shear c.shear

-- what is asked of the magnitude of a force in tension; another force is asked nothing
abbrev pub InTension : ℤ → (ℕ → Type 0) → Type 0
InTension (pos n) P = Unit {0}
InTension (negsuc n) P = P (suc n)

-- what is asked of the magnitude of a force in compression; another force is asked nothing
abbrev pub InCompression : ℤ → (ℕ → Type 0) → Type 0
InCompression (pos zero) P = Unit {0}
InCompression (pos (suc n)) P = P (suc n)
InCompression (negsuc n) P = Unit {0}

-- N / N_t + M / M_r ≤ 1, for a magnitude N
abbrev pub TensionMet : Capacities → (N M : Fraction) → Type 0
TensionMet c N M = AtMost (plus (quotient N c.tension) (quotient M c.moment)) (whole 1)

-- 3. met where N is not negative, else −N / N_t + M / M_r ≤ 1
abbrev pub Tension : Capacities → Load → Type 0
Tension c l = InTension l.axial.num (λ n. TensionMet c (over n l.axial.den) l.moment)

-- M × P_e / (M_r × (P_e − N)), the share of the bending capacity that is used, grown by the axial force
abbrev pub bending_share : Capacities → (N M : Fraction) → Fraction
bending_share c N M = quotient (times M c.buckling) (times c.moment (minus c.buckling N))

-- t = 1 − M × P_e / (M_r × (P_e − N))
abbrev pub rest_share : Capacities → (N M : Fraction) → Fraction
rest_share c N M = minus (whole 1) (bending_share c N M)

-- for N above 0: N < P_e, t ≥ 0, N ≤ t P_c, N ≤ t P_e and 5 (t P_c − N) (t P_e − N) ≥ N²
pub record CompressionMet (c : Capacities) (N M : Fraction) : Type 0 where
  pub stable : Under N c.buckling
  pub bent : AtMost (bending_share c N M) (whole 1)
  pub crushed : AtMost N (times (rest_share c N M) c.crushing)
  pub buckled : AtMost N (times (rest_share c N M) c.buckling)
  pub together : AtMost (times N N)
      (times (whole 5) (times (minus (times (rest_share c N M) c.crushing) N) (minus (times (rest_share c N M) c.buckling) N)))

-- 4. met where N is not positive, else as above
abbrev pub Compression : Capacities → Load → Type 0
Compression c l = InCompression l.axial.num (λ n. CompressionMet c (over n l.axial.den) l.moment)
