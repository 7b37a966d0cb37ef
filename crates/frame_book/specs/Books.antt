-- The ledger that a book keeps, and the rows that no call touches. Assumes nothing.
use Rattle.std.specs.Prelude.{◌≡◌, ◌⊎◌, ℕ, Bool, true, false, drop, Some, None, Ok, Err, Option, Result}
use Rattle.keyed_table.specs.Tables.{content}
use Rattle.ledger.specs.Ledger.{Ledger, is_in_hand, is_judged}
use Rattle.ledger.specs.Table.{is_not, is_so}
use Rattle.ledger.specs.declared.fault.BookFault.{BookFault}
use Rattle.ledger.specs.declared.fault.BookFault.TheVariants.{NoTicket, OtherState}
use Rattle.ledger.specs.declared.member.Member.{Member}
use Rattle.stock.specs.Stocks.{held, room, Beyond}
use Rattle.frame_book.specs.declared.book.Book.{Book}

abbrev pub ledger_of : Book → Ledger
ledger_of b = record {
  grades = b.grades;
  classes = b.classes;
  culms = held b.stock;
  members = content b.members;
  culm_rows = room b.stock;
  member_rows = b.members.limit;
}

-- the limits are as they were, and so is every row past them. A clause of each call, since it speaks of the book before and after; four clauses
-- and no record of them, so that a refusal of the check names the one that fails
pub record Past (b c : Book) : Type 0 where
  pub culms : Beyond b.stock c.stock
  pub member_limit : c.members.limit ≡ b.members.limit
  pub members : drop b.members.limit c.members.rows.now ≡ drop b.members.limit b.members.rows.now

-- what is found where a row is sought of which p is so
abbrev pub FoundWhere : (Member → Bool) → Option Member → Option Member → Type 0
FoundWhere p there None = is_not p there ≡ true
FoundWhere p there (Some x) = (there ≡ Some x) × (p x ≡ true)

-- the same for an unjudged ticket in hand, or the fault where it is not in hand, and where it is judged
abbrev pub FoundUnjudged : Option Member → Result Member BookFault → Type 0
FoundUnjudged there (Ok x) = (there ≡ Some x) × (is_in_hand x ≡ true) × (is_judged x ≡ false)
FoundUnjudged there (Err f) =
    ((f ≡ NoTicket) × (is_not is_in_hand there ≡ true))
    ⊎ ((f ≡ OtherState) × (is_not is_in_hand there ≡ false) × (is_so is_judged there ≡ true))

-- a row that is there has the number m
abbrev pub HasNumber : ℕ → Option Member → Type 0
HasNumber m None = Unit {0}
HasNumber m (Some x) = x.number ≡ m
