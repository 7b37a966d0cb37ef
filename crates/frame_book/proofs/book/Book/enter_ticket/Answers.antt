use Rattle.std.proofs.Common.{rules}
use Rattle.frame_book.proofs.book.Book.enter_ticket.Goals as goal

pub returns-clause-said : goal.returns-clause-said
returns-clause-said c rule =
    let said = c.open_measured.ensures.said rule in
    let member = c.in_ok-in_field.ensures.held in
    let length = c.in_ok-length.ensures.held in
    let class = c.in_ok-class.ensures in
    let forces = c.in_ok-forces.ensures in
    search rules

pub returns-clause-after : goal.returns-clause-after
returns-clause-after c rule =
    let after = c.open_measured.ensures.after rule in
    let member = c.in_ok-in_field.ensures.held in
    let length = c.in_ok-length.ensures.held in
    let class = c.in_ok-class.ensures in
    let forces = c.in_ok-forces.ensures in
    search rules
