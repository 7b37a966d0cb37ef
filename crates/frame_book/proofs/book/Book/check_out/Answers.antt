use Rattle.std.proofs.Common.{◌≡◌, Some, rules}
use Rattle.keyed_table.specs.Rows.{lookup}
use Rattle.keyed_table.specs.Tables.{content}
use Rattle.ledger.specs.Ledger.{member_key}
use Rattle.frame_book.specs.Books.{HasNumber}
use Rattle.frame_book.proofs.Rows.{has_number}
use Rattle.frame_book.proofs.book.Book.check_out.Goals as goal

pub unwrap-requires : goal.unwrap-requires
unwrap-requires c =
    let members = content c.args.self.now.members in
    let row = c.in_ok-row.row in
    let found : Some row ≡ lookup member_key c.args.member members = search rules in
    let number : HasNumber c.args.member (Some row) = has_number c.args.member members (Some row) found in
    search rules
