-- The culms in rows, and their bundles while one may be set aside. Assumes nothing.
use Rattle.std.specs.Prelude.{ℕ, ◌≤◌, Bool, false, cond, not, ◌&&◌, nat_eq, List, [], map, length, Some, None, count_by, Option}
use Rattle.std.specs.List.{flat_map}
use Rattle.quantities.specs.Bundles.{culms_of}
use Rattle.quantities.specs.declared.bundle.Bundle.{Bundle}
use Rattle.ledger.specs.Ledger.{Piece, part_of, bundle, at}
use Rattle.ledger.specs.Table.{Question}
use Rattle.ledger.specs.declared.culm.Culm.{Culm}
use Rattle.ledger.specs.declared.culm.Place.TheVariants.{Rack, Held, Standing}
use Rattle.ledger.specs.declared.member.Member.{Member}
use Rattle.stock.specs.Events.{place_after}
use Rattle.stock.specs.declared.event.Event.{Event}
use Rattle.stock.specs.declared.row.CulmRow.{CulmRow}

abbrev pub row_key : CulmRow → ℕ
row_key r = r.culm.number

abbrev pub culms_in : List CulmRow → List Culm
culms_in rows = map (λ r. r.culm) rows

-- a culm that is set aside is of no bundle
abbrev pub part_in : ℕ → CulmRow → List Piece
part_in m r = cond r.aside [] (part_of m r.culm r.culm.place)

abbrev pub is_part : ℕ → CulmRow → Bool
is_part m r = not r.aside && elim r.culm.place [ Rack ↦ false | Held k ↦ nat_eq k m | Standing k ↦ nat_eq k m ]

abbrev pub bundle_in : ℕ → List CulmRow → List Piece
bundle_in m rows = flat_map (part_in m) rows

-- how many are set aside
abbrev pub aside_count : List CulmRow → ℕ
aside_count rows = count_by (λ r. r.aside) rows

abbrev pub marked : Bool → CulmRow → CulmRow
marked b r = record { culm = r.culm; aside = b }

-- a bundle with the forces of its member, as what the code is asked
abbrev pub as_question : Option Bundle → Member → Option Question
as_question None m = None
as_question (Some x) m = Some (record { culms = culms_of x; basis = x.basis; forces = m.forces })

-- a row whose culm an event has met
abbrev pub travelled : Event → CulmRow → CulmRow
travelled e r = record { culm = at (place_after r.culm.place e) r.culm; aside = r.aside }

-- no bundle is too large
abbrev pub Small : List Culm → Type 0
Small cs = (m : ℕ) → length (bundle m cs) ≤ 16
