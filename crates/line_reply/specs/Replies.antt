-- The bytes of an answer: fields with a tab between each two, and byte 10. Assumes nothing.
use Rattle.std.specs.Prelude.{ℕ, List, [], ◌∷◌, ◌++◌, codes, decimal, Ok, Err, Result}
use Rattle.ledger.specs.declared.answer.Counts.{Counts}
use Rattle.line_format.specs.Faults.{line_number, line_place}
use Rattle.line_format.specs.Verbs.{word_of}
use Rattle.line_format.specs.declared.fault.LineFault.{LineFault}
use Rattle.line_format.specs.declared.verb.Verb.{Verb}
use Rattle.line_reply.specs.declared.reply.Reply.{Reply}
use Rattle.line_reply.specs.declared.reply.Reply.TheVariants.{Done, Counted}

-- a first field and the others
abbrev pub line_of : List ℕ → List (List ℕ) → List ℕ
line_of text [] = text ++ (10 ∷ [])
line_of text (next ∷ texts) = text ++ (9 ∷ line_of next texts)

abbrev pub done_line : Verb → List ℕ
done_line v = line_of (codes "OK") (word_of v ∷ [])

-- culms on the rack, held and standing, standing members, open tickets
abbrev pub counts_line : Counts → List ℕ
counts_line c =
    line_of (codes "OK")
    (codes "TELL" ∷ decimal c.rack ∷ decimal c.held ∷ decimal c.standing ∷ decimal c.members ∷ decimal c.tickets ∷ [])

abbrev pub refusal_line : ℕ → ℕ → List ℕ
refusal_line number place = line_of (codes "NO") (decimal number ∷ decimal place ∷ [])

abbrev pub reply_line : Result Reply LineFault → List ℕ
reply_line (Ok (Done v)) = done_line v
reply_line (Ok (Counted c)) = counts_line c
reply_line (Err f) = refusal_line (line_number f) (line_place f)
