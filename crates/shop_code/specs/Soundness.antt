-- A code that decides one clause at the figures is sound, for every clause that keeps the laws. Assumes nothing.
use Rattle.std.specs.Prelude.{◌≡◌, ℕ, ◌*◌, ◌≤◌, List, Ok, Err}
use Rattle.std.proofs.Common.{sym, ap}
use Rattle.exact.specs.Deciding.{at_most}
use Rattle.exact.specs.Pi.{lower_pi, upper_pi}
use Rattle.quantities.specs.declared.basis.DesignBasis.{DesignBasis}
use Rattle.quantities.specs.declared.forces.Forces.{Forces}
use Rattle.quantities.specs.declared.readings.Readings.{Readings}
use Rattle.capacity.specs.Figures.{moment_figure, shear_figure, tension_figure, crushing_figure, buckling_figure}
use Rattle.design_code.specs.Loads.{recorded, grown}
use Rattle.design_code.specs.Meaning.{Bundled, Sound}
use Rattle.design_code.specs.Verdicts.{Verdict, all_met, refused_by}
use Rattle.design_code.specs.Joining.{apart}
use Rattle.clauses.specs.Clauses.{Bending, Shear, Tension, Compression}
use Rattle.clauses.specs.Laws.{Clause, ClauseLaws, Both, times_all, times_load}
use Rattle.clauses.proofs.Ratios.{bending_turns, shear_turns, tension_turns, compression_turns, laws_from_ratios, scaled_all, scaled_proper}
use Rattle.clauses.proofs.Growing.{growth, growth_positive, lower_positive, upper_positive, recorded_proper, grown_proper, grown_grows}
use Rattle.clauses.proofs.Sizes.{bending_size, shear_size}
use Rattle.shop_code.specs.Deciding.{verdict_by, PullsWithin, PressesWithin, pulls_within?, presses_within?}
use Rattle.shop_code.specs.Shop.{capacities_of, one_clause, bending_meaning, shear_meaning, tension_meaning, compression_meaning}
use Rattle.shop_code.specs.Decided.{tension_decided, compression_decided}
use Rattle.shop_code.specs.Figured.{figures_of, capacities_positive, figures_below, figures_near, figures_positive}

met_says : {P : Type 0} (k : ℕ) (d : Dec P) → verdict_by k d ≡ all_met → P
met_says k (yes p) e = p
met_says k (no g) e = apart _ e

-- the number of a refusal
abbrev refusal : Verdict → ℕ
refusal (Ok _) = 0
refusal (Err r) = r.clause

refused_says : {P : Type 0} (k j : ℕ) (d : Dec P) → verdict_by k d ≡ refused_by j → (j ≡ k) × (P → ⊥)
refused_says k j (yes p) e = apart _ (sym e)
refused_says k j (no g) e = (sym (ap refusal e), g)

module _ (P : Clause) (laws : ClauseLaws P) (cs : List Readings) (b : DesignBasis) (f : Forces) (n : Bundled cs) where
  -- what the figures bear, the exact capacities bear
  borne : P (figures_of cs b) (recorded f) → P (capacities_of lower_pi cs b) (recorded f)
  borne =
      laws.eases (figures_of cs b) (capacities_of lower_pi cs b) (recorded f) (figures_positive cs b n)
      (capacities_positive lower_pi lower_positive cs b n.some) (recorded_proper f) (figures_below cs b n)

  -- what the exact capacities bear when grown, the figures bear
  spared : P (capacities_of upper_pi cs b) (grown f) → P (figures_of cs b) (recorded f)
  spared h =
      let fp = figures_positive cs b n in
      let big = scaled_all growth (figures_of cs b) growth_positive fp in
      let proper = scaled_proper growth (recorded f) growth_positive (recorded_proper f) in
      let eased =
      laws.eases (capacities_of upper_pi cs b) (times_all growth (figures_of cs b)) (grown f) (capacities_positive upper_pi upper_positive cs b n.some) big
      (grown_proper f) (figures_near cs b n) h in
      (laws.scales growth (figures_of cs b) (recorded f) growth_positive fp (recorded_proper f)).0
      (laws.holds_before (times_all growth (figures_of cs b)) (times_load growth (recorded f)) (grown f) big proper (grown_proper f) (grown_grows f) eased)

-- Q is what the code decides
module _ (k : ℕ) (P : Clause) (laws : ClauseLaws P) (Q : List Readings → DesignBasis → Forces → Type 0)
    (decide : (cs : List Readings) (b : DesignBasis) (f : Forces) → Dec (Q cs b f))
    (decides : (cs : List Readings) (b : DesignBasis) (f : Forces) → Bundled cs → Both (Q cs b f) (P (figures_of cs b) (recorded f))) where
  one_clause_sound : Sound (one_clause k P (λ cs b f. verdict_by k (decide cs b f)))
  one_clause_sound = record {
    met = λ cs b f n e j has. borne P laws cs b f n ((decides cs b f n).0 (met_says k (decide cs b f) e));
    refused = λ cs b f n j e.
        let r = refused_says k j (decide cs b f) e in
        (r.0, λ h. r.1 ((decides cs b f n).1 (spared P laws cs b f n h)));
    alike = λ j cs b l m p n pn pd pl pm same.
        laws.counts_alike (capacities_of p cs b) l m (capacities_positive p (record { num = pn; den = pd }) cs b n.some) pl pm same;
  }

pub bending_sound : Sound bending_meaning
bending_sound =
    one_clause_sound 1 Bending (laws_from_ratios _ bending_turns) (λ cs b f. f.moment.value * 32768 ≤ moment_figure cs b)
    (λ cs b f. at_most (f.moment.value * 32768) (moment_figure cs b)) (λ cs b f n. bending_size f.moment.value (moment_figure cs b))

pub shear_sound : Sound shear_meaning
shear_sound =
    one_clause_sound 2 Shear (laws_from_ratios _ shear_turns) (λ cs b f. f.shear.value * 65536 ≤ shear_figure cs b)
    (λ cs b f. at_most (f.shear.value * 65536) (shear_figure cs b)) (λ cs b f n. shear_size f.shear.value (shear_figure cs b))

pub tension_sound : Sound tension_meaning
tension_sound =
    one_clause_sound 3 Tension (laws_from_ratios _ tension_turns)
    (λ cs b f. PullsWithin (moment_figure cs b) (tension_figure cs b) f.axial.newtons f.moment.value)
    (λ cs b f. pulls_within? (moment_figure cs b) (tension_figure cs b) f.axial.newtons f.moment.value)
    (λ cs b f n.
    tension_decided (moment_figure cs b) (shear_figure cs b) (tension_figure cs b) (crushing_figure cs b) (buckling_figure cs b)
    (figures_positive cs b n) f.moment.value f.axial.newtons)

pub compression_sound : Sound compression_meaning
compression_sound =
    one_clause_sound 4 Compression (laws_from_ratios _ compression_turns)
    (λ cs b f. PressesWithin (moment_figure cs b) (buckling_figure cs b) (crushing_figure cs b) f.axial.newtons f.moment.value)
    (λ cs b f. presses_within? (moment_figure cs b) (buckling_figure cs b) (crushing_figure cs b) f.axial.newtons f.moment.value)
    (λ cs b f n.
    compression_decided (moment_figure cs b) (shear_figure cs b) (tension_figure cs b) (crushing_figure cs b) (buckling_figure cs b)
    (figures_positive cs b n) f.moment.value f.axial.newtons)
