-- What the joined meaning of the shop code says, clause by clause. Assumes nothing.
use Rattle.std.proofs.Common.{◌≡◌, ℕ, ◌⊎◌, List, refl, inl, inr, arith}
use Rattle.quantities.specs.declared.basis.DesignBasis.{DesignBasis}
use Rattle.quantities.specs.declared.forces.Forces.{Forces}
use Rattle.quantities.specs.declared.readings.Readings.{Readings}
use Rattle.design_code.specs.Meaning.{Judged}
use Rattle.design_code.specs.Verdicts.{Verdict}
use Rattle.shop_code.specs.Shop.{shop_meaning}
use Rattle.shop_code.specs.Verdicts.{ShopVerdict}

numbers : {A B C D : Type 0} → ((A ⊎ B) ⊎ C) ⊎ D → A ⊎ (B ⊎ (C ⊎ D))
numbers (inl (inl (inl a))) = inl a
numbers (inl (inl (inr b))) = inr (inl b)
numbers (inl (inr c)) = inr (inr (inl c))
numbers (inr d) = inr (inr (inr d))

-- a clause of another number is asked nothing
other : {P : Type 0} (k i j : ℕ) → k ≡ i → k ≡ j → (i ≡ j → ⊥) → P
other k i j p q apart = absurd (apart (omega arith))

not_early : {P : Type 0} (k : ℕ) → k ≡ 4 → ((k ≡ 1) ⊎ (k ≡ 2)) ⊎ (k ≡ 3) → P
not_early k is (inl (inl one)) = other k 4 1 is one (λ x. omega arith)
not_early k is (inl (inr two)) = other k 4 2 is two (λ x. omega arith)
not_early k is (inr three) = other k 4 3 is three (λ x. omega arith)

pub read : (cs : List Readings) (b : DesignBasis) (f : Forces) (v : Verdict) → Judged shop_meaning cs b f v → ShopVerdict cs b f v
read cs b f v h = record {
  by_the_rule = h.by_the_rule;
  met = λ e. record {
    bending = (((h.met e 1 (inl (inl (inl refl)))).0 (inl (inl refl))).0 (inl refl)).0 refl;
    shear = (((h.met e 2 (inl (inl (inr refl)))).0 (inl (inr refl))).0 (inr refl)).1 refl;
    tension = ((h.met e 3 (inl (inr refl))).0 (inr refl)).1 refl;
    compression = (h.met e 4 (inr refl)).1 refl;
  };
  refused = λ k e.
      let r = h.refused k e in
      record {
        numbered = numbers r.0;
        bending = λ is met.
            r.1 (λ _. (λ _. (λ _. met, λ two. other k 1 2 is two (λ x. omega arith)), λ three. other k 1 3 is three (λ x. omega arith)), λ four. other k 1 4 is four (λ x. omega arith));
        shear = λ is met.
            r.1 (λ _. (λ _. (λ one. other k 2 1 is one (λ x. omega arith), λ _. met), λ three. other k 2 3 is three (λ x. omega arith)), λ four. other k 2 4 is four (λ x. omega arith));
        tension = λ is met.
            r.1 (λ _. (λ early. elim early [ inl one ↦ other k 3 1 is one (λ x. omega arith) | inr two ↦ other k 3 2 is two (λ x. omega arith) ], λ _. met), λ four. other k 3 4 is four (λ x. omega arith));
        compression = λ is met. r.1 (λ early. not_early k is early, λ _. met);
      };
}
