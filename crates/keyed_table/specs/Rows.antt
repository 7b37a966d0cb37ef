-- Lists of rows, by the number `key` of each. It assumes nothing.
use Rattle.std.specs.Prelude.{◌≡◌, ℕ, suc, ◌+◌, ◌<◌, if◌then◌else◌, List, [], ◌∷◌, map, length, Some, None, Ok, Err, Option, Result, ◌==◌, ◌≢◌, nat_lt, slice_index_or}

-- the numbers rise strictly
abbrev pub StrictlyRising : {X : Type 0} → (X → ℕ) → List X → Type 0
StrictlyRising {X} key xs = (i : ℕ) (d : X) → i + 1 < length xs → key (slice_index_or xs i d) < key (slice_index_or xs (i + 1) d)

-- the row with the number n
abbrev pub lookup : {X : Type 0} → (X → ℕ) → ℕ → List X → Option X
lookup key n [] = None
lookup key n (x ∷ xs) = if key x == n then Some x else lookup key n xs

-- the rows with x before the first whose number is not below its own
abbrev pub added : {X : Type 0} → (X → ℕ) → X → List X → List X
added key x [] = x ∷ []
added key x (y ∷ ys) = if nat_lt (key y) (key x) then y ∷ added key x ys else x ∷ y ∷ ys

-- the rows that do not have the number n
abbrev pub without : {X : Type 0} → (X → ℕ) → ℕ → List X → List X
without key n [] = []
without key n (x ∷ xs) = if key x == n then without key n xs else x ∷ without key n xs

-- the rows with x for the one that has its number
abbrev pub replaced : {X : Type 0} → (X → ℕ) → X → List X → List X
replaced key x xs = map (λ y. if key y == key x then x else y) xs

-- how many rows at the front have a number below n
abbrev pub below : {X : Type 0} → (X → ℕ) → ℕ → List X → ℕ
below key n [] = 0
below key n (x ∷ xs) = if nat_lt (key x) n then suc (below key n xs) else 0

-- the row at the place i has the number n
abbrev pub NumberAt : {X : Type 0} → (X → ℕ) → ℕ → List X → ℕ → Type 0
NumberAt {X} key n xs i = (i < length xs) × ((d : X) → key (slice_index_or xs i d) ≡ n)

-- no row has the number n
abbrev pub NoRowHas : {X : Type 0} → (X → ℕ) → ℕ → List X → Type 0
NoRowHas {X} key n xs = (i : ℕ) (d : X) → i < length xs → key (slice_index_or xs i d) ≢ n

-- the place of the row with the number n, or none where no row has it
abbrev pub Found : {X : Type 0} → (X → ℕ) → ℕ → List X → Option ℕ → Type 0
Found key n xs (Some i) = NumberAt key n xs i
Found key n xs None = NoRowHas key n xs

-- the same, with the place where a row with the number n belongs
abbrev pub Sought : {X : Type 0} → (X → ℕ) → ℕ → List X → Result ℕ ℕ → Type 0
Sought key n xs (Ok i) = NumberAt key n xs i
Sought key n xs (Err i) = NoRowHas key n xs × (i ≡ below key n xs)

-- what may become of a row, `after`, has its number
abbrev pub KeepsNumber : {X : Type 0} → (X → ℕ) → (X → X → Type 0) → Type 0
KeepsNumber {X} key becomes = (row after : X) → becomes row after → key after ≡ key row

-- a row can become nothing but what `does` gives
abbrev pub Computes : {X : Type 0} → (X → X → Type 0) → (X → X) → Type 0
Computes {X} becomes does = (row after : X) → becomes row after → after ≡ does row
