use Rattle.std.proofs.Common.{refl}
use Rattle.frame_book.proofs.Refusals.{on_err, same_book}
use Rattle.frame_book.proofs.book.Book.without_measured.Goals as goal

pub returns-clause-refused : goal.returns-clause-refused
returns-clause-refused g c = on_err c.ask_some.result (same_book c.args.self.now _ c.bundle_without-bundle.ensures.same refl refl refl)
