use Rattle.std.proofs.Common.{rules}
use Rattle.frame_book.proofs.book.Book.drop_by.Goals as goal

pub returns-clause-said : goal.returns-clause-said
returns-clause-said c rule =
    let said = c.drop_ticket.ensures.said rule in
    let ticket = c.of.ensures in
    let held = c.in_ok-in_field.ensures.held in
    search rules

pub returns-clause-after : goal.returns-clause-after
returns-clause-after c rule =
    let after = c.drop_ticket.ensures.after rule in
    let ticket = c.of.ensures in
    let held = c.in_ok-in_field.ensures.held in
    search rules
