use Rattle.std.proofs.Common.{sym, refl, ap, ◌∙◌, subst, arith}
use Rattle.keyed_table.specs.Rows.{below}
use Rattle.keyed_table.specs.Tables.{content, Changed}
use Rattle.keyed_table.proofs.Places.{place_below}
use Rattle.keyed_table.proofs.ByNumber.{at_own, lacks_own}
use Rattle.keyed_table.proofs.Frames.{length_content, inserts, again, changed, unchanged, taken, full, accepted}
use Rattle.keyed_table.proofs.Table.insert.Goals as goal

pub returns-in_default : goal.returns-in_default
returns-in_default g c =
    let key = g.R.Numbered.key in
    let t = c.args.self.now in
    let is = taken key c.args.row t.limit (content t) _ t.rising (at_own key c.args.row _ _ _ c.number.ensures.number c.in_default.ensures.place) in
    record { answer = sym is.0; change = unchanged t _ (sym is.1); refusal = refl {a = t} }

pub returns-then-self-clause-answer : goal.returns-then-self-clause-answer
returns-then-self-clause-answer g c =
    let t = c.args.self.now in
    let lacks = lacks_own g.R.Numbered.key c.args.row _ _ c.number.ensures.number c.in-Err.ensures.place.0 in
    sym (full g.R.Numbered.key c.args.row t.limit (content t) lacks (omega (arith, length_content t))).0

pub shift_in-requires-clause-place : goal.shift_in-requires-clause-place
shift_in-requires-clause-place g c =
    let t = c.args.self.now in
    omega (arith, length_content t, (place_below g.R.Numbered.key c.number.result (content t)).within, c.in-Err.ensures.place.1)

pub invariant_of-self : goal.invariant_of-self
invariant_of-self g c =
    let key = g.R.Numbered.key in
    let t = c.args.self.now in
    let place = c.in-Err.ensures.place.1 ∙ ap (λ n. below key n (content t)) c.number.ensures.number in
    let lacks = lacks_own key c.args.row _ _ c.number.ensures.number c.in-Err.ensures.place.0 in
    again t _ _ _ (inserts t _ c.in-Err.at c.args.row lacks place (omega (arith, t.within_limit)) c.shift_in.ensures.rows)

pub returns : goal.returns
returns g c =
    let key = g.R.Numbered.key in
    let t = c.args.self.now in
    let place = c.in-Err.ensures.place.1 ∙ ap (λ n. below key n (content t)) c.number.ensures.number in
    let lacks = lacks_own key c.args.row _ _ c.number.ensures.number c.in-Err.ensures.place.0 in
    let w = inserts t _ c.in-Err.at c.args.row lacks place (omega (arith, t.within_limit)) c.shift_in.ensures.rows in
    let is = accepted key c.args.row t.limit (content t) lacks (omega (arith, length_content t, t.within_limit)) in
    record { answer = sym is.0; change = subst (Changed t _) (sym is.1) (changed t _ _ w refl refl); refusal = tt }
