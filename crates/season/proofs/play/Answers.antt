use Rattle.std.proofs.Common.{◌≡◌, [], ◌∷◌, ◌++◌, vec_items, rules}
use Rattle.ledger.specs.Runs.{run, answers}
use Rattle.frame_book.specs.Books.{ledger_of}
use Rattle.frame_book.proofs.Frames.{past_past}
use Rattle.season.proofs.Turns.{one_more, all_played, whole_run}
use Rattle.season.proofs.play.Goals as goal

pub loop-call-preserved : goal.loop-call-preserved
loop-call-preserved g c =
    let rule = (g.C.DesignCode.meaning c.args.code.now).rule in
    let before = ledger_of c.args.book.now in
    let calls = c.args.calls.now in
    let pushed : vec_items c.push.new.self ≡ vec_items c.loop-call.answers ++ (c.obey.result ∷ []) = search rules in
    let inv = c.loop-call.invariant in
    let t =
    one_more rule (ledger_of c.loop-call.book) (ledger_of c.obey.new.self) (vec_items c.loop-call.answers) (vec_items c.push.new.self)
    (answers rule before calls) (run rule before calls) calls c.loop-call.call-index _ c.obey.result c.loop-call-test.true
    c.obey.ensures.said c.obey.ensures.after pushed inv.0 inv.1 in
    (t.0, t.1, search rules, search rules, past_past inv.4 c.obey.ensures.past)

pub returns : goal.returns
returns g c =
    let s = c.args.code.now in
    let code = g.C.DesignCode in
    let rule = (code.meaning s).rule in
    let before = ledger_of c.args.book.now in
    let calls = c.args.calls.now in
    let inv = c.loop-call.invariant in
    let t =
    all_played rule (ledger_of c.loop-call.book) (vec_items c.loop-call.answers) (answers rule before calls) (run rule before calls) calls
    c.loop-call.call-index c.loop-call-test.false inv.0 inv.1 in
    record {
      run = whole_run (code.meaning s) (g.met.C.DesignCode.sound s) before (ledger_of c.loop-call.book) calls (vec_items c.loop-call.answers) t.0 t.1;
      past = inv.4;
    }
