-- An iterator over the culms of a bundle gives at most sixteen, whose sum fits. Assumes nothing.
use Rattle.std.proofs.Common.{◌≡◌, ℕ, ◌+◌, ◌-◌, ◌/◌, ◌^◌, ◌<◌, ◌≤◌, fold, arith}
use Rattle.std.specs.Fn.{Called}
use Rattle.std.specs.Iterator.Adapters.{map_source, map_callee, map_steps}
use Rattle.std.specs.Iterator.Runs.{EachRunFrom}
use Rattle.std.proofs.iter.Yields.{fronts}
use Rattle.std.proofs.lemmas.Iterator.{YieldsList-from_slice}
use Rattle.std.proofs.lemmas.Iterator.Adapters.{YieldsAtMost, at_most_from_yields_List, fits_from_length}
use Rattle.std.specs.Slice.Iter.{iter_rest}
use Rattle.quantities.specs.Bundles.{culms_of}
use Rattle.quantities.specs.declared.bundle.Bundle.{Bundle}
use Rattle.quantities.proofs.Bundled.{culms_few}

sixteen_at_most : (b : Bundle) {s : _} → iter_rest s ≡ culms_of b → YieldsAtMost fronts s 16
sixteen_at_most b e = at_most_from_yields_List (YieldsList-from_slice (culms_of b) e) (culms_few b)

-- the sum of the parts of the culms fits in 64 bits where each part is small
pub culms_fit : {F : Type 0} {s : _} (b : Bundle) (g : _) (f : F) → iter_rest (map_source s) ≡ culms_of b → map_callee s ≡ f
    → ((x : _) (r : ℕ) (q : F) → Called {A = _ × Unit {0}} g f (x, tt) r q → (q ≡ f) × (r ≤ (2 ^ 64 - 1) / 16))
    → EachRunFrom (map_steps fronts g) s (λ p. fold (λ a x. a + x) 0 p.items < 2 ^ 64)
culms_fit b g f e is k = fits_from_length g f 16 (2 ^ 64) (sixteen_at_most b e) is (omega arith) k
