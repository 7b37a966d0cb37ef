-- The checks on culms: refusals 10 to 13 and 19 to 21, as the table has them. Assumes nothing.
use Rattle.std.specs.Prelude.{ℕ, not, List, [], ◌∷◌, length, nat_lt}
use Rattle.quantities.specs.declared.grade.Grade.{Grade}
use Rattle.quantities.specs.declared.readings.Readings.{Readings}
use Rattle.keyed_table.specs.Rows.{lookup}
use Rattle.keyed_table.specs.declared.Refusal.{Refusal}
use Rattle.keyed_table.specs.declared.Refusal.TheVariants.{Full, NumberTaken, NoSuchRow}
use Rattle.ledger.specs.Ledger.{culm_key, bundle, on_rack, held_by}
use Rattle.ledger.specs.Table.{Check, check, absent, present, is_not, grade_held, other_grade}
use Rattle.ledger.specs.declared.culm.Culm.{Culm}
use Rattle.ledger.specs.declared.culm.Place.TheVariants.{Rack}
use Rattle.ledger.specs.declared.fault.BookFault.{BookFault}
use Rattle.ledger.specs.declared.fault.BookFault.TheVariants.{CulmKnown, CulmUnknown, CulmNotOnRack, NoCulmRow, BundleFull, OtherGrade, NotOfBundle}

abbrev pub rack_culm : (n g : ℕ) → Grade → Readings → Culm
rack_culm n g s x = record { number = n; grade = g; strengths = s; readings = x; place = Rack }

abbrev pub add_checks : (room : ℕ) → ℕ → List Culm → List Check
add_checks room n cs =
    check CulmKnown (present (lookup culm_key n cs))
    ∷ check NoCulmRow (not (nat_lt (length cs) room)) ∷ []

abbrev pub scrap_checks : ℕ → List Culm → List Check
scrap_checks n cs =
    check CulmUnknown (absent (lookup culm_key n cs))
    ∷ check CulmNotOnRack (is_not on_rack (lookup culm_key n cs)) ∷ []

abbrev pub hold_checks : (m n : ℕ) → List Culm → List Check
hold_checks m n cs =
    check CulmUnknown (absent (lookup culm_key n cs))
    ∷ check CulmNotOnRack (is_not on_rack (lookup culm_key n cs))
    ∷ check BundleFull (not (nat_lt (length (bundle m cs)) 16))
    ∷ check OtherGrade (other_grade (grade_held (bundle m cs)) (lookup culm_key n cs)) ∷ []

abbrev pub free_checks : (m n : ℕ) → List Culm → List Check
free_checks m n cs =
    check CulmUnknown (absent (lookup culm_key n cs))
    ∷ check NotOfBundle (is_not (held_by m) (lookup culm_key n cs)) ∷ []

-- a refusal of the table, as the book's
abbrev pub culm_fault : Refusal → BookFault
culm_fault NumberTaken = CulmKnown
culm_fault Full = NoCulmRow
culm_fault NoSuchRow = CulmUnknown
