use Rattle.ledger.proofs.Playing.{whole}
use Rattle.ledger.proofs.runs.runs_keep_their_promises.Goals as goal

pub returns : goal.returns
returns g c before calls =
    whole (g.C.DesignCode.meaning c.args.code.now) (g.met.C.DesignCode.sound c.args.code.now) before calls
