-- A call whose numbers have become measures. Assumes nothing.
use Rattle.std.specs.Prelude.{ℕ, Ok, Result}
use Rattle.quantities.specs.Held.{and_then}
use Rattle.quantities.specs.Measures.{within, grade, service_class, readings, forces}
use Rattle.quantities.specs.Classes.{ServiceClass}
use Rattle.quantities.specs.declared.duration.Duration.{Duration}
use Rattle.quantities.specs.declared.fault.MeasureFault.{MeasureFault}
use Rattle.quantities.specs.declared.fault.MeasureFault.TheVariants.{OutOfRange}
use Rattle.quantities.specs.declared.forces.Forces.{Forces}
use Rattle.quantities.specs.declared.grade.Grade.{Grade}
use Rattle.quantities.specs.declared.readings.Readings.{Readings}
use Rattle.quantities.specs.declared.within.Within.{Within}
use Rattle.ledger.specs.declared.call.Call.{Call}
use Rattle.ledger.specs.declared.call.Call.TheVariants.{DefineGrade, DefineClass, AddCulm, ScrapCulm, Open, CheckOut, CheckIn, Hold, Free, Judge, Set, DropTicket, Strike, Load, JudgeWithout, LookCulm, LookMember, LookCounts}

pub data Order : Type 0 where
  define_grade : ℕ → Grade → Order
  define_class : ℕ → ServiceClass → Order
  add_culm : (n g : ℕ) → Readings → Order
  scrap_culm : ℕ → Order
  open_ticket : (m : ℕ) → Within 500 8000 → (s : ℕ) → Duration → Forces → Order
  check_out : ℕ → Order
  check_in : ℕ → Order
  hold : (m n : ℕ) → Order
  free : (m n : ℕ) → Order
  judge : ℕ → Order
  set_member : ℕ → Order
  drop_ticket : ℕ → Order
  strike : ℕ → Order
  load : ℕ → Duration → Forces → Order
  judge_without : (m n : ℕ) → Order
  look_culm : ℕ → Order
  look_member : ℕ → Order
  look_counts : Order

-- numbers in their fields
abbrev pub member : ℕ → Order → Result Order MeasureFault
member m o = and_then (within 1 9999 m (OutOfRange 2)) (λ _. Ok o)

abbrev pub member_and_culm : (m n : ℕ) → Order → Result Order MeasureFault
member_and_culm m n o = and_then (within 1 9999 m (OutOfRange 2)) (λ _. and_then (within 1 4096 n (OutOfRange 3)) (λ _. Ok o))

abbrev pub culm : ℕ → Order → Result Order MeasureFault
culm n o = and_then (within 1 4096 n (OutOfRange 2)) (λ _. Ok o)

-- refusals 5, 6 and 7, or the call in measures
abbrev pub measured : Call → Result Order MeasureFault
measured (DefineGrade g v) = and_then (within 1 8 g (OutOfRange 2)) (λ _. and_then (grade 3 v) (λ x. Ok (define_grade g x)))
measured (DefineClass s f) = and_then (within 1 3 s (OutOfRange 2)) (λ _. and_then (service_class 3 f) (λ x. Ok (define_class s x)))
measured (AddCulm n g r) =
    and_then (within 1 4096 n (OutOfRange 2)) (λ _.
    and_then (within 1 8 g (OutOfRange 3)) (λ _.
    and_then (readings 4 r) (λ x. Ok (add_culm n g x))))
measured (ScrapCulm n) = culm n (scrap_culm n)
measured (Open o) =
    and_then (within 1 9999 o.member (OutOfRange 2)) (λ _.
    and_then (within 500 8000 o.length (OutOfRange 3)) (λ x.
    and_then (within 1 3 o.class (OutOfRange 4)) (λ _.
    and_then (forces 6 o.forces) (λ f. Ok (open_ticket o.member x o.class o.duration f)))))
measured (CheckOut m) = member m (check_out m)
measured (CheckIn m) = member m (check_in m)
measured (Hold m n) = member_and_culm m n (hold m n)
measured (Free m n) = member_and_culm m n (free m n)
measured (Judge m) = member m (judge m)
measured (Set m) = member m (set_member m)
measured (DropTicket m) = member m (drop_ticket m)
measured (Strike m) = member m (strike m)
measured (Load m d raw) = and_then (within 1 9999 m (OutOfRange 2)) (λ _. and_then (forces 4 raw) (λ f. Ok (load m d f)))
measured (JudgeWithout m n) = member_and_culm m n (judge_without m n)
measured (LookCulm n) = culm n (look_culm n)
measured (LookMember m) = member m (look_member m)
measured LookCounts = Ok look_counts
