-- The letters of the durations, and a class's factor for each. Assumes nothing.
use Rattle.std.specs.Prelude.{ℕ, cond, List, Some, None, codes, Option, ◌==◌}
use Rattle.quantities.specs.declared.class.Factors.{Factors}
use Rattle.quantities.specs.declared.duration.Duration.{Duration}
use Rattle.quantities.specs.declared.duration.Duration.TheVariants.{Permanent, Transient, Instantaneous}

-- P, T or I
abbrev pub letter_of : Duration → ℕ
letter_of Permanent = 80
letter_of Transient = 84
letter_of Instantaneous = 73

abbrev pub duration_of : ℕ → Option Duration
duration_of letter =
    cond (letter == 80) (Some Permanent) (cond (letter == 84) (Some Transient) (cond (letter == 73) (Some Instantaneous) None))

abbrev pub word_of : Duration → List ℕ
word_of Permanent = codes "permanent"
word_of Transient = codes "transient"
word_of Instantaneous = codes "instantaneous"

abbrev pub factor_for : {T : Type 0} → Factors T → Duration → T
factor_for f Permanent = f.permanent
factor_for f Transient = f.transient
factor_for f Instantaneous = f.instantaneous
