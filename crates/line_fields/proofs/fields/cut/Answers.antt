use Rattle.std.proofs.Common.{eqb, arith, rules}
use Rattle.std.proofs.lemmas.List.Splits.{length-slice_split, slice_split_none}
use Rattle.line_fields.proofs.Tabs.{cut_at}
use Rattle.line_fields.proofs.fields.cut.Goals as goal

pub returns-in-Some : goal.returns-in-Some
returns-in-Some c = record {
  parts = cut_at c.args.line.now c.in-Some.end (search rules) (search rules) (search rules);
  some = λ _. grind (arith, length-slice_split);
}

pub returns-in-None-clause-parts : goal.returns-in-None-clause-parts
returns-in-None-clause-parts c = slice_split_none (λ b. eqb b 9) c.args.line.now (search rules)
