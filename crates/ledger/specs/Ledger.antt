-- The ledger: what was defined, where each culm is, which tickets are open and which members stand. Assumes nothing.
use Rattle.std.specs.Prelude.{ℕ, ◌-◌, Bool, true, false, cond, not, List, [], ◌∷◌, None, count_by, Option, ◌==◌, nat_eq, slice_index_or}
use Rattle.std.specs.List.{flat_map}
use Rattle.quantities.specs.declared.basis.DesignBasis.{DesignBasis}
use Rattle.quantities.specs.Classes.{ServiceClass}
use Rattle.quantities.specs.declared.duration.Duration.{Duration}
use Rattle.quantities.specs.declared.forces.Forces.{Forces}
use Rattle.quantities.specs.declared.grade.Grade.{Grade}
use Rattle.quantities.specs.declared.readings.Readings.{Readings}
use Rattle.keyed_table.specs.Rows.{lookup}
use Rattle.ledger.specs.declared.answer.Counts.{Counts}
use Rattle.ledger.specs.declared.culm.Culm.{Culm}
use Rattle.ledger.specs.declared.culm.Place.{Place}
use Rattle.ledger.specs.declared.culm.Place.TheVariants.{Rack, Held, Standing}
use Rattle.ledger.specs.declared.member.Member.{Member}
use Rattle.ledger.specs.declared.member.Stage.{Stage}
use Rattle.ledger.specs.declared.member.Stage.TheVariants.{Ticket, Standing as Stands}

-- eight grades and three classes, where defined; culms and members by rising number; how many rows there are for each
pub record Ledger : Type 0 where
  pub grades : List (Option Grade)
  pub classes : List (Option ServiceClass)
  pub culms : List Culm
  pub members : List Member
  pub culm_rows : ℕ
  pub member_rows : ℕ

abbrev pub culm_key : Culm → ℕ
culm_key c = c.number

abbrev pub member_key : Member → ℕ
member_key m = m.number

abbrev pub grade_at : Ledger → ℕ → Option Grade
grade_at l g = slice_index_or l.grades (g - 1) None

abbrev pub class_at : Ledger → ℕ → Option ServiceClass
class_at l s = slice_index_or l.classes (s - 1) None

abbrev pub culm_at : Ledger → ℕ → Option Culm
culm_at l n = lookup culm_key n l.culms

abbrev pub member_at : Ledger → ℕ → Option Member
member_at l m = lookup member_key m l.members

-- a culm as part of a bundle, whatever its number and place
pub record Piece : Type 0 where
  pub grade : ℕ
  pub strengths : Grade
  pub readings : Readings

abbrev pub piece_of : Culm → Piece
piece_of c = record { grade = c.grade; strengths = c.strengths; readings = c.readings }

-- a culm in a place, where it is held by or stands in m
abbrev pub part_of : ℕ → Culm → Place → List Piece
part_of m c Rack = []
part_of m c (Held k) = cond (k == m) (piece_of c ∷ []) []
part_of m c (Standing k) = cond (k == m) (piece_of c ∷ []) []

-- the bundle of the ticket or member m, by rising number of the culms
abbrev pub bundle : ℕ → List Culm → List Piece
bundle m cs = flat_map (λ c. part_of m c c.place) cs

-- what a bundle of that grade is designed on, for a member
abbrev pub basis_of : Grade → Member → DesignBasis
basis_of g m = record { grade = g; class = m.factors; duration = m.duration; length = m.length }

-- the culm in another place
abbrev pub at : Place → Culm → Culm
at p c = record { number = c.number; grade = c.grade; strengths = c.strengths; readings = c.readings; place = p }

-- the member in another stage
abbrev pub staged : Stage → Member → Member
staged s m = record { number = m.number; length = m.length; class = m.class; factors = m.factors; duration = m.duration; forces = m.forces; stage = s }

-- the member with another duration and other forces
abbrev pub reloaded : Duration → Forces → Member → Member
reloaded d f m = record { number = m.number; length = m.length; class = m.class; factors = m.factors; duration = d; forces = f; stage = m.stage }

-- where setting, dropping and striking m take a culm
abbrev pub raised : ℕ → Place → Place
raised m Rack = Rack
raised m (Held k) = cond (k == m) (Standing k) (Held k)
raised m (Standing k) = Standing k

abbrev pub dropped : ℕ → Place → Place
dropped m Rack = Rack
dropped m (Held k) = cond (k == m) Rack (Held k)
dropped m (Standing k) = Standing k

abbrev pub struck : ℕ → Place → Place
struck m Rack = Rack
struck m (Held k) = Held k
struck m (Standing k) = cond (k == m) Rack (Standing k)

abbrev pub moved_by : (Place → Place) → Culm → Culm
moved_by f c = at (f c.place) c

abbrev pub on_rack : Culm → Bool
on_rack c = elim c.place [ Rack ↦ true | Held k ↦ false | Standing k ↦ false ]

abbrev pub is_held : Culm → Bool
is_held c = elim c.place [ Rack ↦ false | Held k ↦ true | Standing k ↦ false ]

abbrev pub is_standing : Culm → Bool
is_standing c = elim c.place [ Rack ↦ false | Held k ↦ false | Standing k ↦ true ]

abbrev pub held_by : ℕ → Culm → Bool
held_by m c = elim c.place [ Rack ↦ false | Held k ↦ nat_eq k m | Standing k ↦ false ]

abbrev pub stands_in : ℕ → Culm → Bool
stands_in m c = elim c.place [ Rack ↦ false | Held k ↦ false | Standing k ↦ nat_eq k m ]

abbrev pub is_ticket : Member → Bool
is_ticket m = elim m.stage [ Ticket judged hand ↦ true | Stands ↦ false ]

abbrev pub stands : Member → Bool
stands m = elim m.stage [ Ticket judged hand ↦ false | Stands ↦ true ]

abbrev pub is_in_hand : Member → Bool
is_in_hand m = elim m.stage [ Ticket judged hand ↦ hand | Stands ↦ false ]

abbrev pub out_of_hand : Member → Bool
out_of_hand m = elim m.stage [ Ticket judged hand ↦ not hand | Stands ↦ false ]

abbrev pub is_judged : Member → Bool
is_judged m = elim m.stage [ Ticket judged hand ↦ judged | Stands ↦ false ]

abbrev pub counts : Ledger → Counts
counts l = record {
  rack = count_by on_rack l.culms;
  held = count_by is_held l.culms;
  standing = count_by is_standing l.culms;
  members = count_by stands l.members;
  tickets = count_by is_ticket l.members;
}

abbrev pub with_grades : Ledger → List (Option Grade) → Ledger
with_grades l gs = record { grades = gs; classes = l.classes; culms = l.culms; members = l.members; culm_rows = l.culm_rows; member_rows = l.member_rows }

abbrev pub with_classes : Ledger → List (Option ServiceClass) → Ledger
with_classes l ss = record { grades = l.grades; classes = ss; culms = l.culms; members = l.members; culm_rows = l.culm_rows; member_rows = l.member_rows }

abbrev pub with_culms : Ledger → List Culm → Ledger
with_culms l cs = record { grades = l.grades; classes = l.classes; culms = cs; members = l.members; culm_rows = l.culm_rows; member_rows = l.member_rows }

abbrev pub with_members : Ledger → List Member → Ledger
with_members l ms = record { grades = l.grades; classes = l.classes; culms = l.culms; members = ms; culm_rows = l.culm_rows; member_rows = l.member_rows }
