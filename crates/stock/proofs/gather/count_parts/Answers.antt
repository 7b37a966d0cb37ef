use Rattle.std.proofs.Common.{◌≡◌, count_by, ◌∙◌, rules}
use Rattle.stock.specs.Rows.{is_part}
use Rattle.stock.proofs.Gathers.{count_parts}
use Rattle.stock.proofs.gather.count_parts.Goals as goal

pub returns : goal.returns
returns c =
    let e : c.count.result ≡ count_by (is_part c.args.member) c.args.rows.now = search rules in
    e ∙ count_parts c.args.member c.args.rows.now
