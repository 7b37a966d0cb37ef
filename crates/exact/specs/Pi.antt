-- The two fractions between which π lies. Assumes nothing.
use Rattle.exact.specs.Fraction.{Fraction, over}

abbrev pub lower_pi : Fraction
lower_pi = over 314159265 100000000

abbrev pub upper_pi : Fraction
upper_pi = over 314159266 100000000
