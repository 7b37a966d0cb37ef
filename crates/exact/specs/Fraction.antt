-- Fractions of whole numbers, multiplied out. A denominator above 0 is a premise where one is needed. Assumes nothing.
use Rattle.std.specs.Prelude.{ℕ, ◌+◌, ◌-◌, ◌*◌, ◌<◌, ◌≤◌, List, [], ◌∷◌}

pub record Fraction : Type 0 where
  pub num : ℕ
  pub den : ℕ

abbrev pub over : ℕ → ℕ → Fraction
over n d = record { num = n; den = d }

-- n as a fraction
abbrev pub whole : ℕ → Fraction
whole n = over n 1

-- a ≤ b
abbrev pub AtMost : Fraction → Fraction → Type 0
AtMost a b = a.num * b.den ≤ b.num * a.den

-- a < b
abbrev pub Under : Fraction → Fraction → Type 0
Under a b = a.num * b.den < b.num * a.den

abbrev pub plus : Fraction → Fraction → Fraction
plus a b = over (a.num * b.den + b.num * a.den) (a.den * b.den)

abbrev pub times : Fraction → Fraction → Fraction
times a b = over (a.num * b.num) (a.den * b.den)

-- a − b, where b is at most a
abbrev pub minus : Fraction → Fraction → Fraction
minus a b = over (a.num * b.den - b.num * a.den) (a.den * b.den)

-- a / b, where b is not 0
abbrev pub quotient : Fraction → Fraction → Fraction
quotient a b = over (a.num * b.den) (a.den * b.num)

-- the sum of f over a list
abbrev pub total_by : {X : Type 0} → (X → Fraction) → List X → Fraction
total_by f [] = whole 0
total_by f (x ∷ xs) = plus (f x) (total_by f xs)
