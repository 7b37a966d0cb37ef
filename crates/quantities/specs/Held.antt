-- Steps that may end in a fault. Assumes nothing.
use Rattle.std.specs.Prelude.{Ok, Err, Result}

-- go on with P, or end in the fault where P does not hold
abbrev pub hold : {P T F : Type 0} → Dec P → F → (P → Result T F) → Result T F
hold (yes p) f k = k p
hold (no g) f k = Err f

-- go on with a result, or end in its fault
abbrev pub and_then : {S T F : Type 0} → Result S F → (S → Result T F) → Result T F
and_then (Ok x) k = k x
and_then (Err f) k = Err f
