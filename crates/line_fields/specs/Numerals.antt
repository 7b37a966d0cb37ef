-- The number that a field writes, if it writes one. Assumes nothing.
use Rattle.std.specs.Prelude.{ℕ, ◌+◌, ◌-◌, ◌*◌, cond, ◌&&◌, List, [], ◌∷◌, length, drop, ℤ, pos, neg_ℤ, Some, None, Option, ◌==◌, nat_lt, slice_index}

-- decimal digits, bytes 48 to 57, read on from a value
abbrev pub digits_from : ℕ → List ℕ → Option ℕ
digits_from n [] = Some n
digits_from n (c ∷ cs) = cond (nat_lt c 48) None (cond (nat_lt 57 c) None (digits_from (n * 10 + (c - 48)) cs))

-- one to seven digits; more than one do not begin with 0
abbrev pub number_of : List ℕ → Option ℕ
number_of text =
    cond (length text == 0) None
    (cond (nat_lt 7 (length text)) None
    (cond (slice_index text 0 == 48 && nat_lt 1 (length text)) None
    (digits_from 0 text)))

-- -0 is no number
abbrev pub negative : Option ℕ → Option ℤ
negative None = None
negative (Some n) = cond (n == 0) None (Some (neg_ℤ (pos n)))

abbrev pub positive : Option ℕ → Option ℤ
positive None = None
positive (Some n) = Some (pos n)

-- byte 45 is the minus
abbrev pub signed_of : List ℕ → Option ℤ
signed_of text =
    cond (length text == 0) None
    (cond (slice_index text 0 == 45) (negative (number_of (drop 1 text)))
    (positive (number_of text)))
