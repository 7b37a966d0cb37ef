use Rattle.std.proofs.Common.{rules}
use Rattle.keyed_table.proofs.ByNumber.{lookup_found}
use Rattle.keyed_table.proofs.Table.get.Goals as goal

pub returns : goal.returns
returns g c =
    record { row = lookup_found g.R.Numbered.key _ _ _ _ c.args.self.now.rising c.find.ensures.place c.map.ensures.variant (λ i x e o. search rules) }
