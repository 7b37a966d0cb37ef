use Rattle.std.proofs.Common.{rules}
use Rattle.frame_book.proofs.book.Book.obey.Goals as goal

pub returns-in-LookCulm-clause-said : goal.returns-in-LookCulm-clause-said
returns-in-LookCulm-clause-said g c =
    let shown = c.culm.ensures (g.C.DesignCode.meaning c.args.code.now).rule in
    search rules

pub returns-in-LookMember-clause-said : goal.returns-in-LookMember-clause-said
returns-in-LookMember-clause-said g c =
    let shown = c.member.ensures (g.C.DesignCode.meaning c.args.code.now).rule in
    search rules
