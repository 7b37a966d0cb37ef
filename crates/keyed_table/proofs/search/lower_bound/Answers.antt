use Rattle.std.proofs.Common.{◌-◌, ap, ◌∙◌, arith}
use native.Mathlib.Nat.{sub-zero}
use Rattle.keyed_table.proofs.Places.{place_below, place_after_lem, place_at_most, turn_halves}
use Rattle.keyed_table.proofs.search.lower_bound.Goals as goal
use Rattle.keyed_table.proofs.search.lower_bound.Goals.{then-low-high+then-number, then-low-high+else-number, else-low-high}

pub loop-turn-init : goal.loop-turn-init
loop-turn-init g c = (
  omega arith,
  (place_below g.R.Numbered.key c.args.number c.args.rows.now).within,
  omega arith,
  simp sub-zero c.binary_digits-turns.ensures.enough,
)

pub loop-turn-preserved : goal.loop-turn-preserved
loop-turn-preserved g c =
    let size = c.loop-turn.high - c.loop-turn.low in
    elim c.if-low-high.branch [
      | then-low-high+then-number w ↦
          let number = w.number.ensures.number ∙ ap g.R.Numbered.key w.index-rows-middle.is in
          let after = place_after_lem g.R.Numbered.key c.args.number c.args.rows.now w.midpoint-middle.result w.index-rows-middle.result c.requires.order (omega arith) (omega (arith, number)) in
          (omega (arith, after), omega arith, omega arith, turn_halves size _ _ _ (omega arith) c.loop-turn.invariant.3 (omega arith))
      | then-low-high+else-number w ↦
          let number = w.number.ensures.number ∙ ap g.R.Numbered.key w.index-rows-middle.is in
          let before = place_at_most g.R.Numbered.key c.args.number c.args.rows.now w.midpoint-middle.result w.index-rows-middle.result (omega (arith, number)) in
          (omega arith, omega (arith, before), omega arith, turn_halves size _ _ _ (omega arith) c.loop-turn.invariant.3 (omega arith))
      | else-low-high w ↦
          (omega arith, omega arith, omega arith, turn_halves size _ _ _ (omega arith) c.loop-turn.invariant.3 (omega arith))
    ]
