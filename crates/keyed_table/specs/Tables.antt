-- What a table holds, and what a call does to it. It assumes nothing.
use Rattle.std.specs.Prelude.{◌≡◌, ℕ, if◌then◌else◌, List, length, take, drop, is_some, Ok, Err, Result, nat_lt}
use Rattle.keyed_table.specs.declared.Table.{Table}
use Rattle.keyed_table.specs.declared.Refusal.{Refusal}
use Rattle.keyed_table.specs.declared.Refusal.TheVariants.{Full, NumberTaken}
use Rattle.keyed_table.specs.Rows.{lookup, added}

-- the rows in use
abbrev pub content : {X : Type 0} {N : _} → Table X N → List X
content t = take t.used t.rows.now

-- the table t became u, which has the rows xs in use; each row behind them is as it was
pub record Changed {X : Type 0} {N : _} (t u : Table X N) (xs : List X) : Type 0 where
  pub holds : content u ≡ xs
  pub count : u.used ≡ length xs
  pub behind : drop (length xs) u.rows.now ≡ drop (length xs) t.rows.now
  pub past : drop t.limit u.rows.now ≡ drop t.limit t.rows.now
  pub limit : u.limit ≡ t.limit
  pub lent : u.rows.ghost_name ≡ t.rows.ghost_name

-- what the insertion of x answers, where xs are in use and `limit` may be
abbrev pub insertion : {X : Type 0} → (X → ℕ) → X → ℕ → List X → Result Unit Refusal
insertion key x limit xs =
    if is_some (lookup key (key x) xs) then Err NumberTaken
    else (if nat_lt (length xs) limit then Ok tt else Err Full)

-- the rows in use after it
abbrev pub enlarged : {X : Type 0} → (X → ℕ) → X → ℕ → List X → List X
enlarged key x limit xs =
    if is_some (lookup key (key x) xs) then xs
    else (if nat_lt (length xs) limit then added key x xs else xs)
