use Rattle.std.proofs.Common.{refl}
use Rattle.frame_book.proofs.Refusals.{on_err, of_parts}
use Rattle.frame_book.proofs.book.Book.define_grade.Goals as goal

pub returns-clause-refused : goal.returns-clause-refused
returns-clause-refused c =
    let r = c.define.result in
    of_parts r c.args.self.now _ (on_err r refl) (on_err r refl) c.define.ensures.refused (on_err r refl)
