-- Why no bundle of a stock gets too large. Assumes nothing.
use Rattle.std.proofs.Common.{◌≡◌, ℕ, zero, suc, ◌<◌, ◌≤◌, Bool, true, false, cond, List, [], ◌∷◌, ◌++◌, map, length, Some, None, sym, refl, ap, ◌∙◌, subst, arith, length-append}
use Rattle.std.specs.List.{remove}
use Rattle.std.specs.Option.{option_map}
use Rattle.keyed_table.specs.Rows.{NumberAt, NoRowHas, lookup, added, without, replaced}
use Rattle.keyed_table.specs.Tables.{content}
use Rattle.std.proofs.lemmas.Bool.{cond-true}
use Rattle.keyed_table.proofs.ByNumber.{lookup_lacks, without_at, without_lacks}
use Rattle.keyed_table.proofs.Orders.{From, from, from_lacks}
use Rattle.ledger.specs.Ledger.{culm_key, part_of, bundle, at, on_rack, held_by}
use Rattle.ledger.specs.declared.culm.Culm.{Culm}
use Rattle.ledger.specs.declared.culm.Place.{Place}
use Rattle.ledger.specs.declared.culm.Place.TheVariants.{Rack, Held, Standing}
use Rattle.ledger.proofs.Kept.{part_rack, part_held_other, part_of_holder, length_part, moved_few}
use Rattle.ledger.proofs.Numbered.{Apart, joined_added_none, no_none}
use Rattle.stock.specs.Events.{meeting, place_after}
use Rattle.stock.specs.Marks.{with_mark, ClearAt}
use Rattle.stock.specs.Rows.{row_key, culms_in, part_in, bundle_in, Small}
use Rattle.stock.specs.Stocks.{held, met_by}
use Rattle.stock.specs.declared.event.Event.{Event}
use Rattle.stock.specs.declared.event.Event.TheVariants.{Hold, Free, Scrap}
use Rattle.stock.specs.declared.event.Meeting.{Meeting}
use Rattle.stock.specs.declared.event.Meeting.TheVariants.{Moved, Out}
use Rattle.stock.specs.declared.row.CulmRow.{CulmRow}
use Rattle.stock.specs.declared.stock.Stock.{Stock}
use Rattle.stock.proofs.Ghosts.{small_without}
use Rattle.stock.proofs.Wrapped.{AllClear, lookup_wrapped, without_wrapped, all_clear, bundle_wrapped, clear_without}

-- rising numbers are numbers of their own
apart_rows : (n : ℕ) (rows : List CulmRow) → From row_key n rows → Apart culm_key (culms_in rows)
apart_rows n [] f = tt
apart_rows n (r ∷ rs) f =
    (lookup_wrapped (row_key r) rs ∙ ap (option_map (λ r. r.culm)) (lookup_lacks row_key (row_key r) rs (from_lacks row_key (suc (row_key r)) (row_key r) rs (omega arith) f.1)), apart_rows (suc (row_key r)) rs f.1)

-- the places that a hold, a free and a scrap fit, in the ledger's words
pub hold_fits : (p : Place) (c : Culm) (m : ℕ) → meeting p (Hold m) ≡ cond (on_rack (at p c)) (Some Moved) None
hold_fits Rack c m = refl
hold_fits (Held k) c m = refl
hold_fits (Standing k) c m = refl

pub free_fits : (p : Place) (c : Culm) (m : ℕ) → meeting p (Free m) ≡ cond (held_by m (at p c)) (Some Moved) None
free_fits Rack c m = refl
free_fits (Held k) c m = refl
free_fits (Standing k) c m = refl

pub scrap_fits : (p : Place) (c : Culm) → meeting p Scrap ≡ cond (on_rack (at p c)) (Some Out) None
scrap_fits Rack c = refl
scrap_fits (Held k) c = refl
scrap_fits (Standing k) c = refl

-- where a hold and a free take a culm, in the ledger's words
pub hold_takes : (p : Place) (c : Culm) (m : ℕ) → place_after p (Hold m) ≡ cond (on_rack (at p c)) (Held m) p
hold_takes Rack c m = refl
hold_takes (Held k) c m = refl
hold_takes (Standing k) c m = refl

pub free_takes : (p : Place) (c : Culm) (m : ℕ) → place_after p (Free m) ≡ cond (held_by m (at p c)) Rack p
free_takes Rack c m = refl
free_takes (Held k) c m = refl
free_takes (Standing k) c m = refl

-- an event that fits has passed its test
pub passed : (b : Bool) (x y : Meeting) → Some x ≡ cond b (Some y) None → b ≡ true
passed true x y e = refl
passed false x y e = no_none e

-- a stock's bundles, and those with another culm, or with a culm in another place
module _ (s : Stock) where
  pub apart : Apart culm_key (held s)
  apart = apart_rows 0 (content s.rows) (from row_key (content s.rows) s.rows.rising)

  pub clear : AllClear (content s.rows)
  clear = all_clear (content s.rows) s.none_aside

  pub bundle_is : (m : ℕ) → bundle_in m (content s.rows) ≡ bundle m (held s)
  bundle_is m = bundle_wrapped m (content s.rows) clear

  pub few_in : (m : ℕ) (rows : List CulmRow) → rows ≡ content s.rows → length (bundle_in m rows) ≤ 16
  few_in m rows e = subst (λ b. length b ≤ 16) (sym (ap (bundle_in m) e ∙ bundle_is m)) (s.bundles_small m)

  pub small_added : (c : Culm) → c.place ≡ Rack → Small (added culm_key c (held s))
  small_added c e m =
      subst (λ b. length b ≤ 16) (sym (joined_added_none culm_key (λ x. part_of m x x.place) c (held s) (ap (part_of m c) e))) (s.bundles_small m)

  pub small_held : (m n : ℕ) (c : Culm) (p : Place) (x : Meeting) → lookup culm_key n (held s) ≡ Some c → Some x ≡ meeting c.place (Hold m) → p ≡ place_after c.place (Hold m)
      → length (bundle m (held s)) < 16 → Small (replaced culm_key (at p c) (held s))
  small_held m n c p x e fits moved room =
      let rack : on_rack c ≡ true = passed _ x Moved (fits ∙ hold_fits c.place c m) in
      subst (λ q. Small (replaced culm_key (at q c) (held s))) (sym (moved ∙ hold_takes c.place c m ∙ cond-true _ _ _ rack))
      (moved_few (held s) apart m n (Held m) c e
      (λ k other. part_held_other m k c other ∙ sym (part_rack k c c.place rack)) s.bundles_small (omega (arith, length_part m c (Held m))))

  pub small_freed : (m n : ℕ) (c : Culm) (p : Place) (x : Meeting) → lookup culm_key n (held s) ≡ Some c → Some x ≡ meeting c.place (Free m) → p ≡ place_after c.place (Free m)
      → Small (replaced culm_key (at p c) (held s))
  small_freed m n c p x e fits moved =
      let by : held_by m c ≡ true = passed _ x Moved (fits ∙ free_fits c.place c m) in
      subst (λ q. Small (replaced culm_key (at q c) (held s))) (sym (moved ∙ free_takes c.place c m ∙ cond-true _ _ _ by))
      (moved_few (held s) apart m n Rack c e (λ k other. sym (part_of_holder m k c c.place by other)) s.bundles_small (omega (arith, s.bundles_small m)))

-- every culm moves, and gives no bundle more
pub small_moved : (f : Culm → Place) → ((m : ℕ) (c : Culm) → length (part_of m c (f c)) ≤ length (part_of m c c.place)) → (cs : List Culm) (m : ℕ)
    → length (bundle m (map (λ c. at (f c) c) cs)) ≤ length (bundle m cs)
small_moved f less [] m = omega arith
small_moved f less (c ∷ cs) m =
    omega (
      arith,
      length-append (part_of m c (f c)) (bundle m (map (λ x. at (f x) x) cs)),
      length-append (part_of m c c.place) (bundle m cs),
      less m c,
      small_moved f less cs m,
    )

-- an event that takes every culm where f does, which gives no bundle more
pub small_all : (s : Stock) (f : Place → Place) (e : Event) → ((p : Place) → f p ≡ place_after p e)
    → ((k : ℕ) (c : Culm) (p : Place) → length (part_of k c (f p)) ≤ length (part_of k c p)) → Small (map (met_by e) (held s))
small_all s f e same less m =
    let each = λ (k : ℕ) (c : Culm). subst (λ p. length (part_of k c p) ≤ length (part_of k c c.place)) (same c.place) (less k c c.place) in
    omega (arith, small_moved (λ c. place_after c.place e) each (held s) m, s.bundles_small m)

clear_at : (i : ℕ) (rows : List CulmRow) → AllClear rows → ClearAt i rows
clear_at i [] c = tt
clear_at zero (r ∷ rs) c = c.0
clear_at (suc i) (r ∷ rs) c = clear_at i rs c.1

-- a culm that is set aside is as good as taken out
mark_removes : (m i : ℕ) (rows : List CulmRow) → i < length rows → bundle_in m (with_mark true i rows) ≡ bundle_in m (remove rows i)
mark_removes m i [] h = absurd (omega arith)
mark_removes m zero (r ∷ rs) h = refl
mark_removes m (suc i) (r ∷ rs) h = ap (λ z. part_in m r ++ z) (mark_removes m i rs (omega arith))

-- a row, where there is one
some_row : (rows : List CulmRow) → 0 < length rows → CulmRow
some_row [] h = absurd (omega arith)
some_row (r ∷ rs) h = r

module _ (s : Stock) (m n : ℕ) where
  abbrev rows : List CulmRow
  rows = content s.rows

  without_is : bundle_in m (without row_key n rows) ≡ bundle m (without culm_key n (held s))
  without_is =
      bundle_wrapped m (without row_key n rows) (clear_without n rows (clear s)) ∙ ap (bundle m) (without_wrapped n rows)

  module _ (i : ℕ) (found : NumberAt row_key n rows i) where
    pub marked_is : bundle_in m (with_mark true i rows) ≡ bundle m (without culm_key n (held s))
    marked_is =
        let some : 0 < length rows = omega (arith, found.0) in
        let d = some_row rows some in
        mark_removes m i rows found.0 ∙ ap (bundle_in m) (without_at row_key n rows i d s.rows.rising found) ∙ without_is

    pub marked_can : (i < length rows) × ClearAt i rows × (length (bundle_in m (with_mark true i rows)) ≤ 16)
    marked_can =
        (found.0, clear_at i rows (clear s), subst (λ b. length b ≤ 16) (sym marked_is) (small_without n (held s) s.bundles_small m))

  pub absent_is : NoRowHas row_key n rows → bundle m (held s) ≡ bundle m (without culm_key n (held s))
  absent_is none = sym (bundle_is s m) ∙ ap (bundle_in m) (sym (without_lacks row_key n rows none)) ∙ without_is
