use Rattle.std.proofs.Common.{◌≡◌, ◌++◌, map, drop, refl, ap, subst, ◌∙◌}
use borrow.Rule.Slice.Mut.{set_vals}
use Rattle.std.specs.Fn.{FnOnceReturnsAtMut}
use Rattle.std.proofs.lemmas.List.{take-append-drop}
use Rattle.keyed_table.specs.Tables.{content}
use Rattle.keyed_table.proofs.Frames.{changes, again, same_table}
use Rattle.keyed_table.proofs.Table.ask.Goals as goal

pub invariant_of-self : goal.invariant_of-self
invariant_of-self g c =
    let t = c.args.self.now in
    let kept = c.requires.leaves _ _ record { shown = _; shows = refl; left = _; met = c.question.ensures; leaves = refl } in
    again t _ _ _ (changes t _ c.question.new.arg2 (ap (map g.R.Numbered.key) kept) refl)

pub returns : goal.returns
returns g c =
    let t = c.args.self.now in
    let called : FnOnceReturnsAtMut g.F.FnOnce c.args.question (content t) c.question.result c.question.new.arg2 =
    record { shown = _; shows = refl; left = _; met = c.question.ensures; leaves = refl } in
    let kept = c.requires.leaves _ _ called in
    let rows : c.question.new.arg2 ++ drop t.used t.rows.now ≡ t.rows.now = ap (λ xs. xs ++ drop t.used t.rows.now) kept ∙ take-append-drop t.used t.rows.now in
    record {
      answer = subst (FnOnceReturnsAtMut g.F.FnOnce c.args.question (content t) c.question.result) kept called;
      same = same_table t _ (ap (λ xs. set_vals xs t.rows) rows) refl refl;
    }
