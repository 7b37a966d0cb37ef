use Rattle.std.proofs.Common.{◌≡◌, Some, rules}
use Rattle.line_format.specs.Verbs.{verb_of}
use Rattle.line_format.proofs.First.{all_first}
use Rattle.line_format.proofs.Words.{some_of_ok}
use Rattle.line_format.proofs.line.read.Goals as goal

pub returns-then-found-count : goal.returns-then-found-count
returns-then-found-count c = let named : verb_of c.cut.result.0.now ≡ Some c.in_ok-verb.verb = some_of_ok _ _ _ c.in_ok-verb.ensures in search rules

pub returns : goal.returns
returns c = search (rules, all_first)
