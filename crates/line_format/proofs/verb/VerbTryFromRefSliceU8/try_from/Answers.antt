use Rattle.std.proofs.Common.{codes, ap, sym, arith, rules}
use Rattle.std.specs.Option.{ok_or}
use Rattle.line_format.specs.Verbs.{verb_of}
use Rattle.line_format.specs.declared.fault.LineFault.TheVariants.{UnknownVerb}
use Rattle.line_format.proofs.Words.{spelled}
use Rattle.line_format.proofs.verb.VerbTryFromRefSliceU8.try_from.Goals as goal

pub returns-in-STRIKE : goal.returns-in-STRIKE
returns-in-STRIKE c =
    ap (λ word. ok_or (verb_of word) UnknownVerb) (sym (spelled c.args.word.now (codes "STRIKE") 0 (omega arith) (search rules)))

pub returns-in-WITHOUT : goal.returns-in-WITHOUT
returns-in-WITHOUT c =
    ap (λ word. ok_or (verb_of word) UnknownVerb) (sym (spelled c.args.word.now (codes "WITHOUT") 0 (omega arith) (search rules)))
