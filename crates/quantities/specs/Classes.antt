-- A service class: factors in percent on strengths and on the modulus. Assumes nothing.
use Rattle.quantities.specs.declared.class.Class.{Class}
use Rattle.quantities.specs.declared.within.Within.{Within}

abbrev pub ServiceClass : Type 0
ServiceClass = Class (Within 10 100)
