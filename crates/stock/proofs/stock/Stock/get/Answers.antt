use Rattle.std.proofs.Common.{◌≡◌, sym, ap, ◌∙◌, rules}
use Rattle.std.specs.Option.{option_map}
use Rattle.keyed_table.specs.Tables.{content}
use Rattle.stock.proofs.Wrapped.{lookup_wrapped}
use Rattle.stock.proofs.stock.Stock.get.Goals as goal

pub returns : goal.returns
returns c =
    let e : c.map.result ≡ option_map (λ r. r.culm) c.get.result = search rules in
    e ∙ ap (option_map (λ r. r.culm)) c.get.ensures.row ∙ sym (lookup_wrapped c.args.number (content c.args.self.now.rows))
