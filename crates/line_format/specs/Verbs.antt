-- The fourteen verbs: the word of each, and how many fields its lines have. Assumes nothing.
use Rattle.std.specs.Prelude.{ℕ, cond, List, [], ◌∷◌, Some, None, codes, Option}
use Rattle.std.specs.Str.{bytes_eq}
use Rattle.line_format.specs.declared.verb.Verb.{Verb}
use Rattle.line_format.specs.declared.verb.Verb.TheVariants.{Grade, Class, Culm, Scrap, Open, Hold, Free, Judge, Set, Drop, Strike, Load, Without, Tell}

abbrev pub word_of : Verb → List ℕ
word_of Grade = codes "GRADE"
word_of Class = codes "CLASS"
word_of Culm = codes "CULM"
word_of Scrap = codes "SCRAP"
word_of Open = codes "OPEN"
word_of Hold = codes "HOLD"
word_of Free = codes "FREE"
word_of Judge = codes "JUDGE"
word_of Set = codes "SET"
word_of Drop = codes "DROP"
word_of Strike = codes "STRIKE"
word_of Load = codes "LOAD"
word_of Without = codes "WITHOUT"
word_of Tell = codes "TELL"

-- the verb included
abbrev pub count_of : Verb → ℕ
count_of Grade = 7
count_of Class = 8
count_of Culm = 6
count_of Scrap = 2
count_of Open = 8
count_of Hold = 3
count_of Free = 3
count_of Judge = 2
count_of Set = 2
count_of Drop = 2
count_of Strike = 2
count_of Load = 6
count_of Without = 3
count_of Tell = 1

abbrev pub all_verbs : List Verb
all_verbs =
    Grade ∷ Class ∷ Culm ∷ Scrap ∷ Open ∷ Hold ∷ Free ∷ Judge ∷ Set ∷ Drop ∷ Strike ∷ Load ∷ Without ∷ Tell ∷ []

-- the first of these verbs that is written so
abbrev pub first_named : List ℕ → List Verb → Option Verb
first_named word [] = None
first_named word (v ∷ vs) = cond (bytes_eq word (word_of v)) (Some v) (first_named word vs)

abbrev pub verb_of : List ℕ → Option Verb
verb_of word = first_named word all_verbs
