use Rattle.std.proofs.Common.{◌≡◌, [], ◌∷◌, ◌++◌, cond, take, sym, ap, ◌∙◌, append-nil, take_all}
use Rattle.ledger.specs.Ledger.{piece_of}
use Rattle.ledger.specs.Table.{question_of}
use Rattle.stock.specs.Rows.{bundle_in, part_in, as_question}
use Rattle.stock.proofs.Gathers.{next_row, small_before, room_for, one_more}
use Rattle.stock.proofs.gather.gather.Goals as goal
use Rattle.stock.proofs.gather.gather.Goals.{then-is_part, else-is_part}

pub extend-requires : goal.extend-requires
extend-requires c =
    let part : part_in c.args.member.now.number c.row-item.result ≡ piece_of c.row-item.result.culm ∷ [] =
    c.is_part.ensures.part ∙ ap (λ b. cond b (piece_of c.row-item.result.culm ∷ []) []) c.if-is_part.true in
    room_for c.loop-row.bundle (bundle_in c.args.member.now.number (take c.loop-row.row-index c.args.rows.now)) c.args.member.now c.loop-row.invariant
    (small_before c.args.member.now.number c.args.rows.now c.loop-row.row-index c.row-item.result _ c.loop-row-test.true c.row-item.is part c.requires)

pub loop-row-preserved : goal.loop-row-preserved
loop-row-preserved c =
    let m = c.args.member.now.number in
    let rows = c.args.rows.now in
    let i = c.loop-row.row-index in
    let row = c.row-item.result in
    let member = c.args.member.now in
    let before = bundle_in m (take i rows) in
    let next = next_row m rows i row _ c.loop-row-test.true c.row-item.is c.is_part.ensures.part in
    elim c.if-is_part.branch [
      | then-is_part w ↦
          ap (λ b. as_question b member) w.bundle-is
          ∙ one_more c.loop-row.bundle w.extend.result before (piece_of row.culm) member c.loop-row.invariant w.extend.ensures
          ∙ sym (ap (λ ps. question_of ps member) (next ∙ ap (λ b. before ++ cond b (piece_of row.culm ∷ []) []) w.if-is_part.true))
      | else-is_part w ↦
          ap (λ b. as_question b member) w.bundle-is
          ∙ c.loop-row.invariant
          ∙ sym (ap (λ ps. question_of ps member) (next ∙ ap (λ b. before ++ cond b (piece_of row.culm ∷ []) []) w.if-is_part.false ∙ append-nil before))
    ]

pub returns : goal.returns
returns c =
    c.loop-row.invariant
    ∙ ap (λ rows. question_of (bundle_in c.args.member.now.number rows) c.args.member.now) (take_all c.loop-row.row-index c.args.rows.now c.loop-row-test.false)
