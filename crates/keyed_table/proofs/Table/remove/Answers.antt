use Rattle.std.proofs.Common.{rules, sym, refl, ap, ◌∙◌}
use Rattle.std.specs.Option.{ok_or}
use Rattle.keyed_table.specs.declared.Refusal.TheVariants.{NoSuchRow}
use Rattle.keyed_table.proofs.ByNumber.{found_ok, found_err, lookup_read, lookup_lacks, without_lacks}
use Rattle.keyed_table.proofs.Frames.{removes, again, changed, unchanged}
use Rattle.keyed_table.proofs.Table.remove.Goals as goal

pub returns-in_err-at : goal.returns-in_err-at
returns-in_err-at g c =
    let lacks = found_err g.R.Numbered.key _ _ _ _ _ c.find.ensures.place (sym c.ok_or.ensures.value ∙ c.in_err-at.was) in
    let none = lookup_lacks g.R.Numbered.key _ _ lacks in
    record { answer = search rules; change = unchanged c.args.self.now _ (sym (without_lacks g.R.Numbered.key _ _ lacks)); refusal = search rules }

pub invariant_of-self : goal.invariant_of-self
invariant_of-self g c =
    let found = found_ok g.R.Numbered.key _ _ _ _ _ c.find.ensures.place (sym c.ok_or.ensures.value ∙ c.in_ok-at.was) in
    again c.args.self.now _ _ _ (removes c.args.self.now _ c.args.number c.in_ok-at.at c.index-rows-at.result found c.shift_out.ensures.rows)

pub returns : goal.returns
returns g c =
    let found = found_ok g.R.Numbered.key _ _ _ _ _ c.find.ensures.place (sym c.ok_or.ensures.value ∙ c.in_ok-at.was) in
    record {
      answer = sym (ap (λ o. ok_or o NoSuchRow) (lookup_read g.R.Numbered.key _ _ _ _ _ c.args.self.now.rising found c.rows.ensures.rows c.index-rows-at.is));
      change = changed c.args.self.now _ _ (removes c.args.self.now _ c.args.number c.in_ok-at.at c.index-rows-at.result found c.shift_out.ensures.rows) refl refl;
      refusal = tt;
    }
