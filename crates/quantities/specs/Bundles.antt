-- The culms of a bundle. Assumes nothing.
use Rattle.std.specs.Prelude.{List, take}
use Rattle.quantities.specs.declared.bundle.Bundle.{Bundle}
use Rattle.quantities.specs.declared.readings.Readings.{Readings}

abbrev pub culms_of : Bundle → List Readings
culms_of b = take b.count b.rows
