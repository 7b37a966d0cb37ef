-- What a stock keeps through its changes. Assumes nothing.
use Rattle.std.proofs.Common.{◌≡◌, ℕ, false, not, ltb, List, [], ◌∷◌, map, length, is_some, Some, None, Ok, Err, Option, Result, OnErr, sym, refl, ap, ◌∙◌, subst, arith}
use Rattle.std.specs.Option.{option_map}
use Rattle.std.specs.Result.{result_map_both}
use Rattle.std.proofs.lemmas.List.{length-map}
use Rattle.std.proofs.lemmas.Bool.{cond_both}
use mathlib.Core.HLevel.{is_prop→PathP}
use native.Mathlib.Bridge.{le_prop}
use Rattle.std.proofs.Props.{props}
use Rattle.keyed_table.specs.Rows.{lookup, added, without}
use Rattle.keyed_table.specs.Tables.{content, insertion, enlarged}
use Rattle.keyed_table.specs.declared.Refusal.{Refusal}
use Rattle.keyed_table.proofs.Lookups.{by_test}
use Rattle.ledger.specs.Ledger.{culm_key, part_of}
use Rattle.ledger.specs.Table.{first_of, afterwards, present}
use Rattle.ledger.specs.declared.culm.Culm.{Culm}
use Rattle.ledger.specs.declared.fault.BookFault.{BookFault}
use Rattle.ledger.proofs.Numbered.{length_without}
use Rattle.stock.specs.Checks.{add_checks, culm_fault}
use Rattle.stock.specs.Rows.{row_key, culms_in, aside_count, travelled, Small}
use Rattle.stock.specs.Stocks.{met_by}
use Rattle.stock.specs.declared.event.Event.{Event}
use Rattle.stock.specs.declared.row.CulmRow.{CulmRow}
use Rattle.stock.specs.declared.stock.Stock.{Stock}
use Rattle.stock.proofs.Wrapped.{AllClear, lookup_wrapped, added_wrapped, none_aside_lem, clear_added}

-- a stock is told by its table
pub same_stock : (s t : Stock) → t.rows ≡ s.rows → t ≡ s
same_stock s t e =
    λ i. record {
      rows = e i;
      none_aside = is_prop→PathP (λ j. aside_count (content (e j)) ≡ 0) (λ j. hlevel props) t.none_aside s.none_aside i;
      bundles_small = is_prop→PathP (λ j. Small (culms_in (content (e j)))) (λ j. hlevel le_prop) t.bundles_small s.bundles_small i;
    }

-- what a stock's ghost fields say of its rows
abbrev pub Kept : List CulmRow → Type 0
Kept rows = record { none_aside : aside_count rows ≡ 0; bundles_small : Small (culms_in rows) }

-- and of rows that became others
pub keeps : (now rows : List CulmRow) (cs : List Culm) → now ≡ rows → AllClear rows → culms_in rows ≡ cs → Small cs → Kept now
keeps now rows cs e c w few =
    record { none_aside = ap aside_count e ∙ none_aside_lem rows c; bundles_small = subst Small (sym (ap culms_in e ∙ w)) few }

-- an insertion
present_some : (o : Option CulmRow) → present (option_map (λ r. r.culm) o) ≡ is_some o
present_some None = refl
present_some (Some r) = refl

module _ (r : CulmRow) (limit : ℕ) (rows : List CulmRow) where
  known_wrapped : present (lookup culm_key r.culm.number (culms_in rows)) ≡ is_some (lookup row_key (row_key r) rows)
  known_wrapped = ap present (lookup_wrapped r.culm.number rows) ∙ present_some (lookup row_key (row_key r) rows)

  fits_wrapped : ltb (length (culms_in rows)) limit ≡ ltb (length rows) limit
  fits_wrapped = ap (λ n. ltb n limit) (length-map rows (λ r. r.culm))

  pub insertion_wrapped : result_map_both (λ u. u) culm_fault (insertion row_key r limit rows) ≡ first_of (add_checks limit r.culm.number (culms_in rows))
  insertion_wrapped =
      rw (known_wrapped, fits_wrapped)
      (by_test (is_some (lookup row_key (row_key r) rows))
      (λ t. simp t)
      (λ f. by_test (ltb (length rows) limit) (λ t. simp (f, t)) (λ g. simp (f, g))))

  pub enlarged_wrapped : culms_in (enlarged row_key r limit rows)
      ≡ afterwards (add_checks limit r.culm.number (culms_in rows)) (culms_in rows) (added culm_key r.culm (culms_in rows))
  enlarged_wrapped =
      rw (known_wrapped, fits_wrapped)
      (by_test (is_some (lookup row_key (row_key r) rows))
      (λ t. simp t)
      (λ f. by_test (ltb (length rows) limit) (λ t. simp (f, t) (added_wrapped r rows)) (λ g. simp (f, g))))

  pub clear_enlarged : r.aside ≡ false → AllClear rows → AllClear (enlarged row_key r limit rows)
  clear_enlarged e c =
      cond_both (is_some (lookup row_key (row_key r) rows)) rows _ AllClear (λ _. c)
      (λ _. cond_both (ltb (length rows) limit) (added row_key r rows) rows AllClear (λ _. clear_added r rows e c) (λ _. c))

pub small_enlarged : (limit n : ℕ) (cs new : List Culm) → Small cs → Small new → Small (afterwards (add_checks limit n cs) cs new)
small_enlarged limit n cs new a b =
    cond_both (present (lookup culm_key n cs)) cs _ Small (λ _. a) (λ _. cond_both (not (ltb (length cs) limit)) cs new Small (λ _. a) (λ _. b))

pub small_without : (n : ℕ) (cs : List Culm) → Small cs → Small (without culm_key n cs)
small_without n cs a m = omega (arith, length_without culm_key (λ c. part_of m c c.place) n cs, a m)

pub travelled_wrapped : (e : Event) (rows : List CulmRow) → culms_in (map (travelled e) rows) ≡ map (met_by e) (culms_in rows)
travelled_wrapped e [] = refl
travelled_wrapped e (r ∷ rs) = ap (λ z. met_by e r.culm ∷ z) (travelled_wrapped e rs)

-- a refused insertion leaves the stock as it was
pub insertion_kept : (s t : Stock) (r : Result (Unit {0}) Refusal) (f : Result (Unit {0}) BookFault) → f ≡ result_map_both (λ u. u) culm_fault r
    → OnErr r (t.rows ≡ s.rows) → OnErr f (t ≡ s)
insertion_kept s t (Ok _) f e k = subst (λ x. OnErr x (t ≡ s)) (sym e) tt
insertion_kept s t (Err r) f e k = subst (λ x. OnErr x (t ≡ s)) (sym e) (same_stock s t k)
