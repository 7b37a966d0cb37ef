-- Decisions that compute: a statement is decided by deciding its parts. Assumes nothing.
use Rattle.std.specs.Prelude.{ℕ, ◌≤◌, Bool, true, false, T, nat_le}
use Rattle.std.proofs.Common.{leb→le, le→leb}

-- P, where a test says so
abbrev pub by : {P : Type 0} (b : Bool) → (T b → P) → (P → T b) → Dec P
by true f g = yes (f tt)
by false f g = no g

abbrev pub at_most : (m n : ℕ) → Dec (m ≤ n)
at_most m n = by (nat_le m n) (leb→le m n) (le→leb m n)

abbrev pub both : {P Q : Type 0} → Dec P → Dec Q → Dec (P × Q)
both (yes p) (yes q) = yes (p, q)
both (yes p) (no g) = no (λ x. g x.1)
both (no g) d = no (λ x. g x.0)
