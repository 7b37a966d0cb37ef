-- Axial forces by their sign. Assumes nothing.
use Rattle.std.proofs.Common.{◌≡◌, ℕ, zero, suc, ◌*◌, ◌<◌, ◌≤◌, ℤ, pos, negsuc, ◌*ℤ◌, neg_ℤ, nat_abs, ◌≤ℤ◌, ◌<ℤ◌, refl, mul-pos, arith}
use Rattle.std.proofs.lemmas.Int.{ints}
use Rattle.exact.specs.Fraction.{AtMost}
use Rattle.exact.specs.Signed.{Signed, size, SameSigned, Grows}
use Rattle.clauses.specs.Clauses.{InTension, InCompression}

pub above : (n : ℕ) → pos 0 <ℤ pos (suc n)
above n = omega (arith, ints)

pub below : (n : ℕ) → negsuc n <ℤ pos 0
below n = omega (arith, ints)

not_below : (n : ℕ) → pos n <ℤ pos 0 → ⊥
not_below n h = omega (arith, ints)

not_above : (n : ℕ) → pos 0 <ℤ negsuc n → ⊥
not_above n h = omega (arith, ints)

not_zero : pos 0 <ℤ pos zero → ⊥
not_zero h = omega (arith, ints)

-- what is asked in tension or compression, from what holds of the magnitude, and back
pub in_tension : (z : ℤ) (P : ℕ → Type 0) → (z <ℤ pos 0 → P (nat_abs z)) → InTension z P
in_tension (pos n) P h = tt
in_tension (negsuc n) P h = h (below n)

pub of_tension : (z : ℤ) (P : ℕ → Type 0) → z <ℤ pos 0 → InTension z P → P (nat_abs z)
of_tension (pos n) P l h = absurd (not_below n l)
of_tension (negsuc n) P l h = h

pub in_compression : (z : ℤ) (P : ℕ → Type 0) → (pos 0 <ℤ z → P (nat_abs z)) → InCompression z P
in_compression (pos zero) P h = tt
in_compression (pos (suc n)) P h = h (above n)
in_compression (negsuc n) P h = tt

pub of_compression : (z : ℤ) (P : ℕ → Type 0) → pos 0 <ℤ z → InCompression z P → P (nat_abs z)
of_compression (pos zero) P l h = absurd (not_zero l)
of_compression (pos (suc n)) P l h = h
of_compression (negsuc n) P l h = absurd (not_above n l)

-- a magnitude that is not 0
pub some_tension : (z : ℤ) → z <ℤ pos 0 → 0 < nat_abs z
some_tension (pos n) l = absurd (not_below n l)
some_tension (negsuc n) l = omega arith

pub some_compression : (z : ℤ) → pos 0 <ℤ z → 0 < nat_abs z
some_compression (pos zero) l = absurd (not_zero l)
some_compression (pos (suc n)) l = omega arith
some_compression (negsuc n) l = absurd (not_above n l)

pulls : (n n' d d' : ℕ) → (negsuc n' *ℤ pos d) ≤ℤ (negsuc n *ℤ pos d') → suc n * d' ≤ suc n' * d
pulls n n' d d' h = omega (arith, ints)

pulls_not : (n n' d d' : ℕ) → 0 < d' → (pos n' *ℤ pos d) ≤ℤ (negsuc n *ℤ pos d') → ⊥
pulls_not n n' d d' p h = omega (arith, ints)

presses : (n n' d d' : ℕ) → (pos n *ℤ pos d') ≤ℤ (pos n' *ℤ pos d) → n * d' ≤ n' * d
presses n n' d d' h = omega (arith, ints)

presses_zero : (n d d' : ℕ) → 0 < d' → (pos (suc n) *ℤ pos d') ≤ℤ (pos zero *ℤ pos d) → ⊥
presses_zero n d d' p h = omega (arith, ints)

presses_not : (n n' d d' : ℕ) → 0 < d' → (pos (suc n) *ℤ pos d') ≤ℤ (negsuc n' *ℤ pos d) → ⊥
presses_not n n' d d' p h = omega (arith, ints)

-- a force that has grown keeps its sign, and its magnitude is no smaller
module _ (d d' : ℕ) (pd' : 0 < d') where
  abbrev at : ℤ → ℕ → Signed
  at z e = record { num = z; den = e }

  pub grown_tension : (z z' : ℤ) → Grows (at z d) (at z' d') → z <ℤ pos 0 → (z' <ℤ pos 0) × AtMost (size (at z d)) (size (at z' d'))
  grown_tension (pos n) z' g l = absurd (not_below n l)
  grown_tension (negsuc n) (pos n') g l = absurd (pulls_not n n' d d' pd' (g.down l))
  grown_tension (negsuc n) (negsuc n') g l = (below n', pulls n n' d d' (g.down l))

  pub grown_compression : (z z' : ℤ) → Grows (at z d) (at z' d') → pos 0 <ℤ z → (pos 0 <ℤ z') × AtMost (size (at z d)) (size (at z' d'))
  grown_compression (pos zero) z' g l = absurd (not_zero l)
  grown_compression (negsuc n) z' g l = absurd (not_above n l)
  grown_compression (pos (suc n)) (pos zero) g l = absurd (presses_zero n d d' pd' (g.up l))
  grown_compression (pos (suc n)) (negsuc n') g l = absurd (presses_not n n' d d' pd' (g.up l))
  grown_compression (pos (suc n)) (pos (suc n')) g l = (above n', presses (suc n) (suc n') d d' (g.up l))

pub same_grows : (a b : Signed) → SameSigned a b → Grows b a
same_grows a b e = record { up = λ _. omega (arith, ints); down = λ _. omega (arith, ints) }

pub itself_grows : (a : Signed) → Grows a a
itself_grows a = record { up = λ _. omega (arith, ints); down = λ _. omega (arith, ints) }

above_some : (n : ℕ) → 0 < n → pos 0 <ℤ pos n
above_some zero p = absurd (omega arith)
above_some (suc n) p = above n

not_above_none : (n : ℕ) → n ≡ 0 → pos 0 <ℤ pos n → ⊥
not_above_none zero e l = not_zero l
not_above_none (suc n) e l = omega arith

neg_size : (n : ℕ) → nat_abs (neg_ℤ (pos n)) ≡ n
neg_size zero = refl
neg_size (suc n) = refl

neg_below : (n : ℕ) → 0 < n → neg_ℤ (pos n) <ℤ pos 0
neg_below zero p = absurd (omega arith)
neg_below (suc n) p = below n

neg_not_above : (n : ℕ) → pos 0 <ℤ neg_ℤ (pos n) → ⊥
neg_not_above zero l = not_zero l
neg_not_above (suc n) l = not_above n l

-- a factor keeps the sign and goes onto the magnitude
module _ (k : ℕ) (pk : 0 < k) where
  some_product : (n : ℕ) → 0 < k * suc n
  some_product n = let p : 0 < suc n = omega arith in mul-pos pk p

  pub scaled_size : (z : ℤ) → nat_abs (pos k *ℤ z) ≡ k * nat_abs z
  scaled_size (pos n) = refl
  scaled_size (negsuc n) = neg_size (k * suc n)

  pub scaled_below : (z : ℤ) → z <ℤ pos 0 → (pos k *ℤ z) <ℤ pos 0
  scaled_below (pos n) l = absurd (not_below n l)
  scaled_below (negsuc n) l = neg_below (k * suc n) (some_product n)

  pub scaled_above : (z : ℤ) → pos 0 <ℤ z → pos 0 <ℤ (pos k *ℤ z)
  scaled_above (pos zero) l = absurd (not_zero l)
  scaled_above (pos (suc n)) l = above_some (k * suc n) (some_product n)
  scaled_above (negsuc n) l = absurd (not_above n l)

  pub unscaled_below : (z : ℤ) → (pos k *ℤ z) <ℤ pos 0 → z <ℤ pos 0
  unscaled_below (pos n) l = absurd (not_below (k * n) l)
  unscaled_below (negsuc n) l = below n

  pub unscaled_above : (z : ℤ) → pos 0 <ℤ (pos k *ℤ z) → pos 0 <ℤ z
  unscaled_above (pos zero) l = absurd (not_above_none (k * zero) (omega arith) l)
  unscaled_above (pos (suc n)) l = above n
  unscaled_above (negsuc n) l = absurd (neg_not_above (k * suc n) l)
