-- The call that a line asks for: its fields from left to right, each a number, else refusal 4. Assumes nothing.
use Rattle.std.specs.Prelude.{ℕ, ◌+◌, ◌-◌, cond, List, [], length, ℤ, Some, None, Ok, Err, Option, Result, ◌==◌, slice_index, slice_index_or}
use Rattle.quantities.specs.Durations.{duration_of}
use Rattle.quantities.specs.Held.{and_then}
use Rattle.quantities.specs.declared.class.Factors.{Factors}
use Rattle.quantities.specs.declared.duration.Duration.{Duration}
use Rattle.ledger.specs.declared.call.Call.{Call}
use Rattle.ledger.specs.declared.call.Call.TheVariants.{DefineGrade, DefineClass, AddCulm, ScrapCulm, Open as OpenTicket, Hold as HoldCulm, Free as FreeCulm, Judge as JudgeTicket, Set as SetMember, DropTicket, Strike as StrikeMember, Load as LoadMember, JudgeWithout, LookCounts}
use Rattle.line_fields.specs.Numerals.{number_of, signed_of}
use Rattle.line_format.specs.Lines.{Placed, field, Said, says, read_line}
use Rattle.line_format.specs.declared.fault.LineFault.{LineFault}
use Rattle.line_format.specs.declared.fault.LineFault.TheVariants.{BadField}
use Rattle.line_format.specs.declared.request.Request.{Request}
use Rattle.line_format.specs.declared.verb.Verb.{Verb}
use Rattle.line_format.specs.declared.verb.Verb.TheVariants.{Grade, Class, Culm, Scrap, Open, Hold, Free, Judge, Set, Drop, Strike, Load, Without, Tell}

-- what was made of a field, or refusal 4 at its place
abbrev pub or_bad : {X : Type 0} → ℕ → Option X → Result X LineFault
or_bad place None = Err (BadField place)
or_bad place (Some x) = Ok x

abbrev pub duration_in : List ℕ → Option Duration
duration_in text = cond (length text == 1) (duration_of (slice_index text 0)) None

abbrev pub number_field : Placed → Result ℕ LineFault
number_field (field place text) = or_bad place (number_of text)

abbrev pub signed_field : Placed → Result ℤ LineFault
signed_field (field place text) = or_bad place (signed_of text)

abbrev pub duration_field : Placed → Result Duration LineFault
duration_field (field place text) = or_bad place (duration_in text)

-- the field at a place: the verb, field 1, is not among the fields behind it
abbrev pub at : ℕ → List Placed → Placed
at place fs = slice_index_or fs (place - 2) (field 0 [])

-- a call made of the number at a place, and of what follows
abbrev pub number : {X : Type 0} → ℕ → List Placed → (ℕ → Result X LineFault) → Result X LineFault
number place fs rest = and_then (number_field (at place fs)) rest

abbrev pub signed : {X : Type 0} → ℕ → List Placed → (ℤ → Result X LineFault) → Result X LineFault
signed place fs rest = and_then (signed_field (at place fs)) rest

abbrev pub duration : {X : Type 0} → ℕ → List Placed → (Duration → Result X LineFault) → Result X LineFault
duration place fs rest = and_then (duration_field (at place fs)) rest

abbrev pub factors : ℕ → List Placed → Result (Factors ℕ) LineFault
factors first fs =
    number first fs (λ p.
    number (first + 1) fs (λ t.
    number (first + 2) fs (λ i.
    Ok (record { permanent = p; transient = t; instantaneous = i }))))

abbrev pub one_number_call : (ℕ → Call) → List Placed → Result Call LineFault
one_number_call call fs = number 2 fs (λ n. Ok (call n))

abbrev pub member_and_culm_call : (ℕ → ℕ → Call) → List Placed → Result Call LineFault
member_and_culm_call call fs = number 2 fs (λ member. number 3 fs (λ culm. Ok (call member culm)))

abbrev pub grade_call : List Placed → Result Call LineFault
grade_call fs =
    number 2 fs (λ grade.
    number 3 fs (λ bending.
    number 4 fs (λ compression.
    number 5 fs (λ tension.
    number 6 fs (λ shear.
    number 7 fs (λ modulus.
    Ok (DefineGrade grade (record { bending = bending; compression = compression; tension = tension; shear = shear; modulus = modulus }))))))))

abbrev pub class_call : List Placed → Result Call LineFault
class_call fs =
    number 2 fs (λ class.
    and_then (factors 3 fs) (λ strength.
    and_then (factors 6 fs) (λ modulus.
    Ok (DefineClass class (record { strength = strength; modulus = modulus })))))

abbrev pub culm_call : List Placed → Result Call LineFault
culm_call fs =
    number 2 fs (λ culm.
    number 3 fs (λ grade.
    number 4 fs (λ diameter.
    number 5 fs (λ wall.
    number 6 fs (λ straightness.
    Ok (AddCulm culm grade (record { diameter = diameter; wall = wall; straightness = straightness })))))))

abbrev pub open_call : List Placed → Result Call LineFault
open_call fs =
    number 2 fs (λ member.
    number 3 fs (λ effective.
    number 4 fs (λ class.
    duration 5 fs (λ d.
    signed 6 fs (λ axial.
    number 7 fs (λ shear.
    number 8 fs (λ moment.
    Ok (OpenTicket (record { member = member; length = effective; class = class; duration = d; forces = record { axial = axial; shear = shear; moment = moment } })))))))))

abbrev pub load_call : List Placed → Result Call LineFault
load_call fs =
    number 2 fs (λ member.
    duration 3 fs (λ d.
    signed 4 fs (λ axial.
    number 5 fs (λ shear.
    number 6 fs (λ moment.
    Ok (LoadMember member d (record { axial = axial; shear = shear; moment = moment })))))))

abbrev pub call_of : Verb → List Placed → Result Call LineFault
call_of Grade = grade_call
call_of Class = class_call
call_of Culm = culm_call
call_of Scrap = one_number_call ScrapCulm
call_of Open = open_call
call_of Hold = member_and_culm_call HoldCulm
call_of Free = member_and_culm_call FreeCulm
call_of Judge = one_number_call JudgeTicket
call_of Set = one_number_call SetMember
call_of Drop = one_number_call DropTicket
call_of Strike = one_number_call StrikeMember
call_of Load = load_call
call_of Without = member_and_culm_call JudgeWithout
call_of Tell = λ fs. Ok LookCounts

abbrev pub verb_in : Said → Verb
verb_in (says v fs) = v

abbrev pub call_in : Said → Result Call LineFault
call_in (says v fs) = call_of v fs

abbrev pub request_of : List ℕ → Result Request LineFault
request_of line =
    and_then (read_line line) (λ s.
    and_then (call_in s) (λ call.
    Ok (record { verb = verb_in s; call = call })))
