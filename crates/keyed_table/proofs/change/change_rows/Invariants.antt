use Rattle.std.proofs.Common.{◌≡◌, ◌++◌, map, take, drop}
use Rattle.keyed_table.specs.Rows.{Computes}
use Rattle.keyed_table.proofs.change.change_rows.Given as goal

abbrev pub invariant-loop-row : goal.invariant-loop-row
invariant-loop-row g l =
    (map g.R.Numbered.key l.rows ≡ map g.R.Numbered.key l.initial.rows)
    × ((does : _) → Computes (goal.F-post g l.change) does → l.rows ≡ map does (take l.row-index l.initial.rows) ++ drop l.row-index l.initial.rows)
