-- Rows that are found have the number that was sought. Assumes nothing.
use Rattle.std.proofs.Common.{◌≡◌, ℕ, Bool, List, Some, None, Option, sym}
use Rattle.keyed_table.specs.Rows.{lookup}
use Rattle.ledger.specs.Ledger.{member_key}
use Rattle.ledger.specs.declared.member.Member.{Member}
use Rattle.ledger.proofs.Numbered.{lookup_key}
use Rattle.frame_book.specs.Books.{FoundWhere, HasNumber}

pub has_number : (m : ℕ) (xs : List Member) (o : Option Member) → o ≡ lookup member_key m xs → HasNumber m o
has_number m xs None e = tt
has_number m xs (Some x) e = lookup_key member_key m xs x (sym e)

pub found_number : (p : Member → Bool) (m : ℕ) (xs : List Member) (o : Option Member) → FoundWhere p (lookup member_key m xs) o → HasNumber m o
found_number p m xs None f = tt
found_number p m xs (Some x) f = has_number m xs (Some x) (sym f.0)
