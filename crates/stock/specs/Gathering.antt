-- A question about one culm more. Assumes nothing.
use Rattle.std.specs.Prelude.{◌<◌, [], ◌∷◌, ◌++◌, length, Some, None, Option}
use Rattle.quantities.specs.Bundles.{culms_of}
use Rattle.quantities.specs.declared.bundle.Bundle.{Bundle}
use Rattle.ledger.specs.Ledger.{Piece}
use Rattle.ledger.specs.Table.{Question, question_of}
use Rattle.ledger.specs.declared.member.Member.{Member}

abbrev pub extended : Option Question → Piece → Member → Option Question
extended None p m = question_of (p ∷ []) m
extended (Some q) p m = Some (record { culms = q.culms ++ (p.readings ∷ []); basis = q.basis; forces = q.forces })

-- there is room for one culm more
abbrev pub Room : Option Bundle → Type 0
Room None = Unit {0}
Room (Some b) = length (culms_of b) < 16
