use Rattle.std.proofs.Common.{rules}
use Rattle.std.proofs.lemmas.List.{set-set, set-get_or}
use Rattle.keyed_table_samples.proofs.seats.fn.taken_with.ask.Goals as goal

pub returns : goal.returns
returns c = search (rules, set-set, set-get_or)
