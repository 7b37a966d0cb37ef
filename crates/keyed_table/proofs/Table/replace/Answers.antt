use Rattle.std.proofs.Common.{rules, sym, refl, ap, ◌∙◌}
use Rattle.std.specs.Option.{ok_or}
use Rattle.keyed_table.specs.declared.Refusal.TheVariants.{NoSuchRow}
use Rattle.keyed_table.proofs.ByNumber.{found_ok, found_err, at_own, lacks_own, lookup_read, lookup_lacks, replaced_lacks}
use Rattle.keyed_table.proofs.Frames.{replaces, again, changed, unchanged}
use Rattle.keyed_table.proofs.Table.replace.Goals as goal

pub returns-in_err-at : goal.returns-in_err-at
returns-in_err-at g c =
    let key = g.R.Numbered.key in
    let lacks = lacks_own key c.args.row _ _ c.number.ensures.number (found_err key _ _ _ _ _ c.find.ensures.place (sym c.ok_or.ensures.value ∙ c.in_err-at.was)) in
    let none = lookup_lacks key _ _ lacks in
    record { answer = search rules; change = unchanged c.args.self.now _ (sym (replaced_lacks key _ _ lacks)); refusal = search rules }

pub invariant_of-self : goal.invariant_of-self
invariant_of-self g c =
    let key = g.R.Numbered.key in
    let found = at_own key c.args.row _ _ _ c.number.ensures.number (found_ok key _ _ _ _ _ c.find.ensures.place (sym c.ok_or.ensures.value ∙ c.in_ok-at.was)) in
    again c.args.self.now _ _ _ (replaces c.args.self.now _ c.in_ok-at.at c.args.row found refl)

pub returns : goal.returns
returns g c =
    let key = g.R.Numbered.key in
    let found = at_own key c.args.row _ _ _ c.number.ensures.number (found_ok key _ _ _ _ _ c.find.ensures.place (sym c.ok_or.ensures.value ∙ c.in_ok-at.was)) in
    record {
      answer = sym (ap (λ o. ok_or o NoSuchRow) (lookup_read key _ _ _ _ _ c.args.self.now.rising found c.rows.ensures.rows c.index-rows-at.is));
      change = changed c.args.self.now _ _ (replaces c.args.self.now _ c.in_ok-at.at c.args.row found refl) refl refl;
      refusal = tt;
    }
