-- Two sound codes joined are sound. Assumes nothing.
use Rattle.std.specs.Prelude.{◌⊎◌, ◌≡◌, refl, ℕ, Ok, Err}
use Rattle.std.proofs.Common.{inl, inr, subst}
use Rattle.design_code.specs.Meaning.{Meaning, Sound, first, joined_with}
use Rattle.design_code.specs.Verdicts.{Verdict, all_met, refused_by}
use Rattle.design_code.specs.declared.verdict.Refused.{Refused}

-- P of a met verdict, nothing of a refusal
abbrev where_met : Type 0 → Verdict → Type 0
where_met P (Ok _) = P
where_met P (Err r) = Unit {0}

pub apart : {P : Type 0} (r : Refused) → Err r ≡ all_met → P
apart {P = P} r e = subst (where_met P) e tt

-- where the first of two is refused, the refusal is its own; else the second's
pub first_refused : (v w : Verdict) (k : ℕ) → first v w ≡ refused_by k → (v ≡ refused_by k) ⊎ (w ≡ refused_by k)
first_refused (Ok _) w k e = inr e
first_refused (Err r) w k e = inl e

pub first_met : (v w : Verdict) → first v w ≡ all_met → (v ≡ all_met) × (w ≡ all_met)
first_met (Ok _) w e = (refl, e)
first_met (Err r) w e = apart r e

pub joined_sound : (x y : Meaning) → Sound x → Sound y → Sound (joined_with x y)
joined_sound x y p q = record {
  met = λ cs b f n e k has.
      let h = first_met (x.rule cs b f) (y.rule cs b f) e in
      (p.met cs b f n h.0 k, q.met cs b f n h.1 k);
  refused = λ cs b f n k e.
      elim (first_refused (x.rule cs b f) (y.rule cs b f) k e) [
        | inl h ↦ let a = p.refused cs b f n k h in (inl a.0, λ r. a.1 (r.0 a.0))
        | inr h ↦ let a = q.refused cs b f n k h in (inr a.0, λ r. a.1 (r.1 a.0))
      ];
  alike = λ k cs b l m π n pn pd pl pm same r.
      (λ has. p.alike k cs b l m π n pn pd pl pm same (r.0 has), λ has. q.alike k cs b l m π n pn pd pl pm same (r.1 has));
}
