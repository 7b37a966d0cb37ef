-- How many culms a bundle has. Assumes nothing.
use Rattle.std.proofs.Common.{◌≡◌, ◌<◌, ◌≤◌, length, arith, length-take-le}
use Rattle.quantities.specs.Bundles.{culms_of}
use Rattle.quantities.specs.declared.bundle.Bundle.{Bundle}

pub culms_counted : (b : Bundle) → length (culms_of b) ≡ b.count
culms_counted b = length-take-le b.count b.rows (omega arith)

pub culms_some : (b : Bundle) → 0 < length (culms_of b)
culms_some b = omega (arith, culms_counted b)

pub culms_few : (b : Bundle) → length (culms_of b) ≤ 16
culms_few b = omega (arith, culms_counted b)
