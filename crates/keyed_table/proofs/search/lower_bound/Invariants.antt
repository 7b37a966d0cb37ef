use Rattle.std.proofs.Common.{◌-◌, ◌^◌, ◌<◌, ◌≤◌, length}
use Rattle.keyed_table.specs.Rows.{below}
use Rattle.keyed_table.proofs.search.lower_bound.Given as goal

abbrev pub invariant-loop-turn : goal.invariant-loop-turn
invariant-loop-turn g l =
    (l.low ≤ below g.R.Numbered.key l.number l.rows)
    × (below g.R.Numbered.key l.number l.rows ≤ l.high)
    × (l.high ≤ length l.rows)
    × (l.high - l.low < 2 ^ (l.turns - l.turn))
