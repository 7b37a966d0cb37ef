use Rattle.std.proofs.Common.{refl, sym, ap, map, ◌∙◌, subst}
use Rattle.keyed_table.specs.Tables.{Changed}
use Rattle.keyed_table.proofs.Frames.{changes, again, changed}
use Rattle.keyed_table.proofs.Table.change_all.Goals as goal

pub invariant_of-self : goal.invariant_of-self
invariant_of-self g c =
    let t = c.args.self.now in
    again t _ _ _ (changes t _ c.change_rows.new.rows c.change_rows.ensures.numbers refl)

pub returns : goal.returns
returns g c =
    let t = c.args.self.now in
    let rewritten = changes t _ c.change_rows.new.rows c.change_rows.ensures.numbers refl in
    let becomes = changed t _ _ rewritten refl refl in
    record {
      change = λ does computes.
          subst (Changed t _) (c.change_rows.ensures.rows does computes) becomes;
      frame = subst (Changed t _) (sym becomes.holds) becomes;
      numbers = ap (map g.R.Numbered.key) becomes.holds ∙ c.change_rows.ensures.numbers;
    }
