use Rattle.std.proofs.Common.{◌≡◌, true, refl, ap, ◌∙◌, rules}
use Rattle.ledger.specs.Table.{question_of}
use Rattle.stock.proofs.Ghosts.{same_stock, keeps}
use Rattle.stock.specs.Marks.{with_mark}
use Rattle.stock.specs.Rows.{bundle_in, as_question}
use Rattle.stock.specs.Stocks.{held}
use Rattle.keyed_table.specs.Tables.{content}
use Rattle.stock.proofs.Moving.{clear, marked_is, marked_can, absent_is}
use Rattle.stock.proofs.stock.Stock.bundle_without.Goals as goal

pub ask-requires : goal.ask-requires
ask-requires c =
    let can = marked_can c.args.self.now c.args.member.number c.args.number c.in-Some.at c.in-Some.ensures.place in
    record { callable = search rules; leaves = λ answer after called. search rules }

pub invariant_of-self : goal.invariant_of-self
invariant_of-self c =
    let s = c.args.self.now in
    keeps _ (content s.rows) (held s) (ap content c.ask.ensures.same) (clear s) refl s.bundles_small

pub returns : goal.returns
returns c =
    let s = c.args.self.now in
    let m = c.args.member in
    let asked : as_question c.ask.result m ≡ question_of (bundle_in m.number (with_mark true c.in-Some.at (content s.rows))) m = search rules in
    record {
      said = asked ∙ ap (λ b. question_of b m) (marked_is s m.number c.args.number c.in-Some.at c.in-Some.ensures.place);
      same = same_stock s _ c.ask.ensures.same;
    }

pub returns-in_default-clause-said : goal.returns-in_default-clause-said
returns-in_default-clause-said c =
    let m = c.args.member in
    c.bundle_of.ensures ∙ ap (λ b. question_of b m) (absent_is c.args.self.now m.number c.args.number c.in_default.ensures.place)
