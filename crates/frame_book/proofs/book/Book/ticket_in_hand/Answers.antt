use Rattle.std.proofs.Common.{rules}
use Rattle.keyed_table.specs.Tables.{content}
use Rattle.ledger.specs.Ledger.{is_in_hand}
use Rattle.frame_book.proofs.Rows.{found_number}
use Rattle.frame_book.proofs.book.Book.ticket_in_hand.Goals as goal

pub returns-clause-number : goal.returns-clause-number
returns-clause-number c = found_number is_in_hand c.args.number (content c.args.self.now.members) c.filter.result (search rules)
