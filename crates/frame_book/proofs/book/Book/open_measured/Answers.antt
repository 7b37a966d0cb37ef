use Rattle.std.proofs.Common.{◌≡◌, refl, OnErr, rules}
use Rattle.frame_book.proofs.Refusals.{on_err, of_parts}
use Rattle.frame_book.proofs.book.Book.open_measured.Goals as goal

pub returns-clause-refused : goal.returns-clause-refused
returns-clause-refused c =
    let r = c.map_err.result in
    let kept : OnErr r (c.insert.new.self ≡ c.args.self.now.members) = search rules in
    of_parts r c.args.self.now _ (on_err r refl) kept (on_err r refl) (on_err r refl)
