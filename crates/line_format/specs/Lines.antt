-- How a line is read: as its verb with every field and its place, or refused by 1, 2 or 3. Assumes nothing.
use Rattle.std.specs.Prelude.{ℕ, zero, suc, ◌+◌, cond, List, [], ◌∷◌, length, drop, Some, None, Ok, Err, Option, Result, ◌==◌, nat_lt, slice_index_or}
use Rattle.line_fields.specs.Cuts.{fields_of}
use Rattle.line_format.specs.Verbs.{count_of, verb_of}
use Rattle.line_format.specs.declared.fault.LineFault.{LineFault}
use Rattle.line_format.specs.declared.fault.LineFault.TheVariants.{TooLong, UnknownVerb, FieldCount}
use Rattle.line_format.specs.declared.line.Field.{Field}
use Rattle.line_format.specs.declared.line.GradeFields.{GradeFields}
use Rattle.line_format.specs.declared.line.ClassFields.{ClassFields}
use Rattle.line_format.specs.declared.line.CulmFields.{CulmFields}
use Rattle.line_format.specs.declared.line.OpenFields.{OpenFields}
use Rattle.line_format.specs.declared.line.LoadFields.{LoadFields}
use Rattle.line_format.specs.declared.line.BundleFields.{BundleFields}
use Rattle.line_format.specs.declared.line.Line.{Line}
use Rattle.line_format.specs.declared.line.Line.TheVariants as L
use Rattle.line_format.specs.declared.verb.Verb.{Verb}
use Rattle.line_format.specs.declared.verb.Verb.TheVariants.{Grade, Class, Culm, Scrap, Open, Hold, Free, Judge, Set, Drop, Strike, Load, Without, Tell}

-- a field: its place in the line, and its bytes
pub data Placed : Type 0 where
  field : ℕ → List ℕ → Placed

-- a line: its verb, and the fields behind it
pub data Said : Type 0 where
  says : Verb → List Placed → Said

-- the fields of a line from a place on
abbrev pub placed_from : ℕ → List (List ℕ) → List Placed
placed_from k [] = []
placed_from k (text ∷ texts) = field k text ∷ placed_from (k + 1) texts

-- the first so many of these, empty where there are fewer
abbrev pub placed_first : ℕ → ℕ → List (List ℕ) → List Placed
placed_first zero k texts = []
placed_first (suc n) k texts = field k (slice_index_or texts 0 []) ∷ placed_first n (k + 1) (drop 1 texts)

-- the fields behind a verb: as many as the verb has, or refusal 3 with the count of all
abbrev pub read_behind : Option Verb → List (List ℕ) → Result Said LineFault
read_behind None texts = Err UnknownVerb
read_behind (Some v) texts =
    cond (1 + length texts == count_of v) (Ok (says v (placed_from 2 texts))) (Err (FieldCount (1 + length texts)))

-- every line has a first field, so the first case never comes
abbrev pub read_fields : List (List ℕ) → Result Said LineFault
read_fields [] = Err UnknownVerb
read_fields (word ∷ texts) = read_behind (verb_of word) texts

abbrev pub read_line : List ℕ → Result Said LineFault
read_line line = cond (nat_lt 80 (length line)) (Err TooLong) (read_fields (fields_of line))

-- what a line of the code says, field by field

abbrev pub placed : Field → Placed
placed f = field f.place f.text.now

abbrev pub one_field : Field → List Placed
one_field f = placed f ∷ []

abbrev pub grade_fields : GradeFields → List Placed
grade_fields f =
    placed f.grade ∷ placed f.bending ∷ placed f.compression ∷ placed f.tension ∷ placed f.shear ∷ placed f.modulus ∷ []

abbrev pub class_fields : ClassFields → List Placed
class_fields f =
    placed f.class ∷ placed f.strength_permanent ∷ placed f.strength_transient ∷ placed f.strength_instantaneous ∷ placed f.modulus_permanent ∷ placed f.modulus_transient ∷ placed f.modulus_instantaneous ∷ []

abbrev pub culm_fields : CulmFields → List Placed
culm_fields f =
    placed f.culm ∷ placed f.grade ∷ placed f.diameter ∷ placed f.wall ∷ placed f.straightness ∷ []

abbrev pub open_fields : OpenFields → List Placed
open_fields f =
    placed f.member ∷ placed f.length ∷ placed f.class ∷ placed f.duration ∷ placed f.axial ∷ placed f.shear ∷ placed f.moment ∷ []

abbrev pub load_fields : LoadFields → List Placed
load_fields f =
    placed f.member ∷ placed f.duration ∷ placed f.axial ∷ placed f.shear ∷ placed f.moment ∷ []

abbrev pub bundle_fields : BundleFields → List Placed
bundle_fields f = placed f.member ∷ placed f.culm ∷ []

abbrev pub said : Line → Said
said (L.Grade f) = says Grade (grade_fields f)
said (L.Class f) = says Class (class_fields f)
said (L.Culm f) = says Culm (culm_fields f)
said (L.Scrap culm) = says Scrap (one_field culm)
said (L.Open f) = says Open (open_fields f)
said (L.Hold f) = says Hold (bundle_fields f)
said (L.Free f) = says Free (bundle_fields f)
said (L.Judge member) = says Judge (one_field member)
said (L.Set member) = says Set (one_field member)
said (L.Drop member) = says Drop (one_field member)
said (L.Strike member) = says Strike (one_field member)
said (L.Load f) = says Load (load_fields f)
said (L.Without f) = says Without (bundle_fields f)
said L.Tell = says Tell []

abbrev pub seen : Result Line LineFault → Result Said LineFault
seen (Ok line) = Ok (said line)
seen (Err fault) = Err fault
