use Rattle.std.proofs.Common.{◌≡◌, false, refl, ap, ◌∙◌, rules}
use Rattle.std.specs.Result.{result_map_both}
use Rattle.keyed_table.specs.Tables.{content}
use Rattle.stock.specs.Checks.{culm_fault}
use Rattle.stock.specs.Rows.{culms_in}
use Rattle.stock.specs.declared.row.CulmRow.{CulmRow}
use Rattle.stock.proofs.Ghosts.{keeps, insertion_wrapped, enlarged_wrapped, clear_enlarged, small_enlarged, insertion_kept}
use Rattle.stock.proofs.Moving.{clear}
use Rattle.stock.proofs.stock.Stock.insert.Goals as goal

pub invariant_of-self : goal.invariant_of-self
invariant_of-self c =
    let s = c.args.self.now in
    let rows = content s.rows in
    let limit = s.rows.limit in
    let r : CulmRow = record { culm = c.args.culm; aside = false } in
    keeps _ _ _ c.insert.ensures.change.holds (clear_enlarged r limit rows refl (clear s)) (enlarged_wrapped r limit rows)
    (small_enlarged limit c.args.culm.number (culms_in rows) _ s.bundles_small c.requires.small)

pub returns-clause-said : goal.returns-clause-said
returns-clause-said c =
    let t = c.args.self.now.rows in
    let e : c.map_err.result ≡ result_map_both (λ u. u) culm_fault c.insert.result = search rules in
    e ∙ ap (result_map_both (λ u. u) culm_fault) c.insert.ensures.answer ∙ insertion_wrapped (record { culm = c.args.culm; aside = false }) t.limit (content t)

pub returns-clause-after : goal.returns-clause-after
returns-clause-after c =
    let t = c.args.self.now.rows in
    ap culms_in c.insert.ensures.change.holds ∙ enlarged_wrapped (record { culm = c.args.culm; aside = false }) t.limit (content t)

pub returns-clause-refused : goal.returns-clause-refused
returns-clause-refused c =
    let e : c.map_err.result ≡ result_map_both (λ u. u) culm_fault c.insert.result = search rules in
    insertion_kept c.args.self.now _ c.insert.result _ e c.insert.ensures.refusal
