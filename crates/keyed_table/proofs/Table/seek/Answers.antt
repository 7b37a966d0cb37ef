use Rattle.std.proofs.Common.{rules, ap, ◌∙◌}
use Rattle.keyed_table.specs.Rows.{below}
use Rattle.keyed_table.specs.Tables.{content}
use Rattle.keyed_table.proofs.Places.{lacks}
use Rattle.keyed_table.proofs.Table.seek.Goals as goal

pub returns-else-is_some_and : goal.returns-else-is_some_and
returns-else-is_some_and g c =
    let t = c.args.self.now in
    let place = c.lower_bound-at.ensures.place ∙ ap (below g.R.Numbered.key c.args.number) c.rows-rows.ensures.rows in
    record { place = (lacks g.R.Numbered.key c.args.number (content t) c.lower_bound-at.result t.rising place (λ d l q. search rules), place) }
