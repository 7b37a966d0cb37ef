-- What a call hands out, and what a refusal hands back. Assumes nothing.
use Rattle.std.specs.Prelude.{ℕ, false, cond, Ok, Err, Option, Result}
use Rattle.quantities.specs.Held.{and_then}
use Rattle.quantities.specs.Measures.{within}
use Rattle.quantities.specs.declared.fault.MeasureFault.{MeasureFault}
use Rattle.quantities.specs.declared.fault.MeasureFault.TheVariants.{OutOfRange}
use Rattle.ledger.specs.Ledger.{is_judged}
use Rattle.ledger.specs.Orders.{Order}
use Rattle.ledger.specs.Table.{is_so}
use Rattle.ledger.specs.declared.fault.BookFault.{BookFault}
use Rattle.ledger.specs.declared.member.Member.{Member}
use Rattle.frame_book.specs.declared.ticket.AnyTicket.{AnyTicket}
use Rattle.frame_book.specs.declared.ticket.AnyTicket.TheVariants as T
use Rattle.frame_book.specs.declared.ticket.Ticket.{Ticket}

-- the ticket of the number m in a state, in hand
abbrev pub in_hand : {S : Type 0} → ℕ → Ticket S
in_hand m = record { number = m; spent = false; state = record {} }

abbrev pub number_on : AnyTicket → ℕ
number_on (T.Unjudged t) = t.number
number_on (T.Judged t) = t.number

-- the ticket of the number m, judged or not as it is in the ledger
abbrev pub ticket_of : ℕ → Option Member → AnyTicket
ticket_of m o = cond (is_so is_judged o) (T.Judged (in_hand m)) (T.Unjudged (in_hand m))

-- where nothing refuses, `t` is handed out
abbrev pub gives : {X : Type 0} → X → Result (Unit {0}) BookFault → Result X BookFault
gives t (Ok _) = Ok t
gives t (Err f) = Err f

-- where something refuses, `u` is handed back
abbrev pub trades : {X Y : Type 0} → X → Y → Result (Unit {0}) BookFault → Result X (BookFault × Y)
trades t u (Ok _) = Ok t
trades t u (Err f) = Err (f, u)

-- an order on a ticket that names the culm n in its field 3
abbrev pub with_culm : ℕ → Order → Result Order MeasureFault
with_culm n o = and_then (within 1 4096 n (OutOfRange 3)) (λ _. Ok o)
