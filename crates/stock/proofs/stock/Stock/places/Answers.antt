use Rattle.std.proofs.Common.{◌≡◌, count_by, ap, ◌∙◌, rules}
use Rattle.keyed_table.specs.Tables.{content}
use Rattle.ledger.specs.Ledger.{on_rack, is_held, is_standing}
use Rattle.stock.proofs.Wrapped.{count_wrapped}
use Rattle.stock.proofs.stock.Stock.places.Goals as goal

pub returns-clause-rack : goal.returns-clause-rack
returns-clause-rack c =
    let e : c.count.result ≡ count_by (λ r. on_rack r.culm) c.rows-rows.result.now = search rules in
    e ∙ ap (count_by (λ r. on_rack r.culm)) c.rows-rows.ensures.rows ∙ count_wrapped on_rack (content c.args.self.now.rows)

pub returns-clause-held : goal.returns-clause-held
returns-clause-held c =
    let e : c.count-2.result ≡ count_by (λ r. is_held r.culm) c.rows-rows.result.now = search rules in
    e ∙ ap (count_by (λ r. is_held r.culm)) c.rows-rows.ensures.rows ∙ count_wrapped is_held (content c.args.self.now.rows)

pub returns-clause-standing : goal.returns-clause-standing
returns-clause-standing c =
    let e : c.count-3.result ≡ count_by (λ r. is_standing r.culm) c.rows-rows.result.now = search rules in
    e ∙ ap (count_by (λ r. is_standing r.culm)) c.rows-rows.ensures.rows ∙ count_wrapped is_standing (content c.args.self.now.rows)
