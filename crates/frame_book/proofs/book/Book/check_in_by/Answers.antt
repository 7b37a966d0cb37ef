use Rattle.std.proofs.Common.{rules}
use Rattle.frame_book.proofs.book.Book.check_in_by.Goals as goal

pub returns-clause-said : goal.returns-clause-said
returns-clause-said c rule =
    let said = c.check_in.ensures.said rule in
    let ticket = c.of.ensures in
    let held = c.in_ok-in_field.ensures.held in
    search rules

pub returns-clause-after : goal.returns-clause-after
returns-clause-after c rule =
    let after = c.check_in.ensures.after rule in
    let ticket = c.of.ensures in
    let held = c.in_ok-in_field.ensures.held in
    search rules
