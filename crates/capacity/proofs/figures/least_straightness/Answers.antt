use Rattle.std.proofs.Common.{◌≡◌, rules}
use Rattle.capacity.specs.Capacities.{least_straightness}
use Rattle.capacity.proofs.Rounded.{straightness_lies}
use Rattle.capacity.proofs.figures.least_straightness.Goals as goal

pub invariant_of-result : goal.invariant_of-result
invariant_of-result c =
    let lies = straightness_lies c.args.culms.now in
    let e : c.fold-value.result ≡ least_straightness c.args.culms.now = search rules in
    record { low = rw e lies.from; high = rw e lies.to }
