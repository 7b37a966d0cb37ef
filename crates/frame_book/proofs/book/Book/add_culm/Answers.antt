use Rattle.std.proofs.Common.{rules}
use Rattle.frame_book.proofs.book.Book.add_culm.Goals as goal

pub returns-clause-said : goal.returns-clause-said
returns-clause-said c rule =
    let said = c.add_measured.ensures.said rule in
    let culm = c.in_ok-in_field.ensures.held in
    let grade = c.in_ok-grade.ensures in
    let readings = c.in_ok-readings.ensures in
    search rules

pub returns-clause-after : goal.returns-clause-after
returns-clause-after c rule =
    let after = c.add_measured.ensures.after rule in
    let culm = c.in_ok-in_field.ensures.held in
    let grade = c.in_ok-grade.ensures in
    let readings = c.in_ok-readings.ensures in
    search rules
