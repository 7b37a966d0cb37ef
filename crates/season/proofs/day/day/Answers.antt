use Rattle.std.proofs.Common.{min, [], length, vec_items, refl, ap, ◌∙◌}
use Rattle.std.proofs.lemmas.Result.{MatchResult-weaker}
use Rattle.ledger.specs.Runs.{empty_ledger, run, answers}
use Rattle.season.proofs.Turns.{whole_run}
use Rattle.season.proofs.day.day.Goals as goal

pub returns : goal.returns
returns g c =
    let s = c.args.code.now in
    let code = g.C.DesignCode.meaning s in
    let rule = code.rule in
    let calls = c.args.calls.now in
    let culm_rows = min 4096 (length c.args.culms.now) in
    let member_rows = min 512 (length c.args.members.now) in
    let empty = empty_ledger culm_rows member_rows in
    MatchResult-weaker c.play.result c.play.ensures.run
    (λ v w.
    let all =
    whole_run code (g.met.C.DesignCode.sound s) empty (run rule empty calls) calls (vec_items v)
    (w.every_answer_is_the_tables ∙ ap (λ l. answers rule l calls) c.new-book.ensures) refl in
    record {
      whole = all;
      stands = all.standing_members_meet_every_clause [] (record { culm_rows = culm_rows; member_rows = member_rows; led = refl });
    })
    (λ _ _. tt)
