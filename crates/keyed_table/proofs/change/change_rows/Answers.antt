use Rattle.std.proofs.Common.{set, sym, ap, ◌∙◌, rules}
use Rattle.std.proofs.Math.Seq.{map-set_same}
use Rattle.std.proofs.lemmas.List.Edits.{map_over_more}
use Rattle.std.proofs.lemmas.List.{take_all, drop_all}
use Rattle.keyed_table.proofs.change.change_rows.Goals as goal

pub loop-row-preserved : goal.loop-row-preserved
loop-row-preserved g c =
    let rows = c.loop-row.rows in
    let i = c.loop-row.row-index in
    let row = c.row-item.result in (
      map-set_same g.R.Numbered.key rows i c.change.result row (c.requires.numbers _ _ c.change.ensures) ∙ c.loop-row.invariant.0,
      λ does computes.
          ap (set rows i) (computes _ _ c.change.ensures ∙ ap does (sym c.row-item.is))
          ∙ map_over_more does c.args.rows.now rows i row c.loop-row-test.true (c.loop-row.invariant.1 does computes) c.row-item.is,
    )

pub returns-clause-rows : goal.returns-clause-rows
returns-clause-rows g c =
    λ does computes.
    let is = c.loop-row.invariant.1 does computes in
    search (rules, take_all, drop_all)
