use Rattle.std.proofs.Common.{refl}
use Rattle.frame_book.proofs.Refusals.{on_err, of_parts}
use Rattle.frame_book.proofs.book.Book.scrap_culm.Goals as goal

pub returns-clause-refused : goal.returns-clause-refused
returns-clause-refused c =
    let r = c.scrap.result in
    of_parts r c.args.self.now _ c.scrap.ensures.refused (on_err r refl) (on_err r refl) (on_err r refl)
