-- What a change leaves of a table. It assumes nothing.
use Rattle.std.proofs.Common.{◌≡◌, ℕ, ◌+◌, ◌-◌, ◌<◌, ◌≤◌, List, ◌++◌, map, length, take, drop, set, Ok, Err, sym, refl, ap, ap₂, ◌∙◌, subst, arith}
use mathlib.Core.HLevel.{is_prop→PathP}
use native.Mathlib.Bridge.{le_prop}
use Rattle.std.specs.List.{insert, remove}
use Rattle.std.proofs.lemmas.List.Edits.{length-insert, length-remove}
use Rattle.std.proofs.lemmas.List.{length-append, length-drop, length-set, length-map, length-take-le, take_at, drop_at, drop-drop, take-append-drop, set-append_left}
use Rattle.std.proofs.lemmas.Grind.{common_steps}
use Rattle.keyed_table.specs.declared.Numbered.{Ghosts}
use Rattle.keyed_table.specs.declared.Table.{Table}
use Rattle.keyed_table.specs.declared.Refusal.TheVariants.{Full, NumberTaken}
use Rattle.keyed_table.specs.Rows.{StrictlyRising, NumberAt, NoRowHas, below, added, without, replaced}
use Rattle.keyed_table.specs.Tables.{content, Changed, insertion, enlarged}
use Rattle.keyed_table.proofs.Orders.{rising_added, rising_without, rising_replaced, rising_same}
use Rattle.keyed_table.proofs.Places.{place_below}
use Rattle.keyed_table.proofs.ByNumber.{lookup_at, lookup_lacks, added_at, without_at, replaced_at}

-- the list `old` became `new`, whose first `used` rows are xs, which rise
pub record Rewritten {X : Type 0} (key : X → ℕ) (old new : List X) (used limit : ℕ) (xs : List X) : Type 0 where
  pub rows : new ≡ xs ++ drop (length xs) old
  pub count : used ≡ length xs
  pub within : used ≤ limit
  pub rises : StrictlyRising key xs

past_limit : {X : Type 0} (xs rows : List X) (limit : ℕ) → length xs ≤ limit → drop limit (xs ++ drop (length xs) rows) ≡ drop limit rows
past_limit xs rows limit h =
    let e : length xs + (limit - length xs) ≡ limit = omega arith in
    let new = drop-drop (limit - length xs) (length xs) (xs ++ drop (length xs) rows) in
    let old = drop-drop (limit - length xs) (length xs) rows in
    let behind = drop_at xs (drop (length xs) rows) (length xs) refl in
    cc

module _ {X : Type 0} {N : Ghosts X} where
  pub length_content : (t : Table X N) → length (content t) ≡ t.used
  length_content t = length-take-le t.used t.rows.now (omega (arith, t.within_limit, t.within_rows))

  -- nothing changed
  pub unchanged : (t : Table X N) (xs : List X) → content t ≡ xs → Changed t t xs
  unchanged t xs e =
      record { holds = e; count = sym (length_content t) ∙ ap length e; behind = refl; past = refl; limit = refl; lent = refl }

  -- a table is told by its rows and its counts
  pub same_table : (t u : Table X N) → u.rows ≡ t.rows → u.used ≡ t.used → u.limit ≡ t.limit → u ≡ t
  same_table t u r n l =
      λ i. record {
        rows = r i;
        used = n i;
        limit = l i;
        within_limit = is_prop→PathP (λ j. n j ≤ l j) (λ j. le_prop) u.within_limit t.within_limit i;
        within_rows = is_prop→PathP (λ j. l j ≤ length (r j).now) (λ j. le_prop) u.within_rows t.within_rows i;
        rising = is_prop→PathP (λ j. StrictlyRising N.key (take (n j) (r j).now)) (λ j. hlevel le_prop) u.rising t.rising i;
      }

  front : (t : Table X N) (new : List X) (used : ℕ) (xs : List X) → Rewritten N.key t.rows.now new used t.limit xs → take used new ≡ xs
  front t new used xs w = ap (λ k. take k new) w.count ∙ (ap (take (length xs)) w.rows ∙ take_at xs _ _ refl)

  -- the table's ghost fields hold again
  pub again : (t : Table X N) (new : List X) (used : ℕ) (xs : List X) → Rewritten N.key t.rows.now new used t.limit xs
      → record { within_limit : used ≤ t.limit; within_rows : t.limit ≤ length new; rising : StrictlyRising N.key (take used new) }
  again t new used xs w =
      let whole = ap length w.rows ∙ length-append xs (drop (length xs) t.rows.now) ∙ ap (λ n. length xs + n) (length-drop (length xs) t.rows.now) in
      record { within_limit = w.within; within_rows = omega (arith, whole, w.count, w.within, t.within_rows); rising = subst (StrictlyRising N.key) (sym (front t new used xs w)) w.rises }

  pub changed : (t u : Table X N) (xs : List X) → Rewritten N.key t.rows.now u.rows.now u.used t.limit xs → u.limit ≡ t.limit → u.rows.ghost_name ≡ t.rows.ghost_name → Changed t u xs
  changed t u xs w limit lent =
      record {
        holds = front t u.rows.now u.used xs w;
        count = w.count;
        behind = ap (drop (length xs)) w.rows ∙ drop_at xs _ _ refl;
        past = ap (drop t.limit) w.rows ∙ past_limit xs t.rows.now t.limit (omega (arith, w.count, w.within));
        limit = limit;
        lent = lent;
      }

  -- one row more, less, or in place of another
  pub inserts : (t : Table X N) (new : List X) (at : ℕ) (x : X) → NoRowHas N.key (N.key x) (content t) → at ≡ below N.key (N.key x) (content t) → t.used < t.limit
      → new ≡ insert (content t) at x ++ drop (t.used + 1) t.rows.now → Rewritten N.key t.rows.now new (t.used + 1) t.limit (added N.key x (content t))
  inserts t new at x a b f rows =
      let xs = content t in
      let is : insert xs at x ≡ added N.key x xs = ap (λ k. insert xs k x) b ∙ added_at N.key x xs in
      let within = (place_below N.key (N.key x) xs).within in
      let longer : t.used + 1 ≡ length (added N.key x xs) = omega (arith, ap length is, length-insert xs at x (omega (arith, b, within)), length_content t) in
      record { rows = rows ∙ ap₂ (λ ys k. ys ++ drop k t.rows.now) is longer; count = longer; within = omega arith; rises = rising_added N.key x xs a t.rising }

  pub removes : (t : Table X N) (new : List X) (n at : ℕ) (d : X) → NumberAt N.key n (content t) at
      → new ≡ remove (content t) at ++ drop (t.used - 1) t.rows.now → Rewritten N.key t.rows.now new (t.used - 1) t.limit (without N.key n (content t))
  removes t new n at d a rows =
      let xs = content t in
      let is : remove xs at ≡ without N.key n xs = without_at N.key n xs at d t.rising a in
      let shorter : t.used - 1 ≡ length (without N.key n xs) = omega (arith, ap length is, length-remove xs at a.0, length_content t) in
      record { rows = rows ∙ ap₂ (λ ys k. ys ++ drop k t.rows.now) is shorter; count = shorter; within = omega (arith, t.within_limit); rises = rising_without N.key n xs t.rising }

  pub replaces : (t : Table X N) (new : List X) (at : ℕ) (x : X) → NumberAt N.key (N.key x) (content t) at
      → new ≡ set t.rows.now at x → Rewritten N.key t.rows.now new t.used t.limit (replaced N.key x (content t))
  replaces t new at x a rows =
      let xs = content t in
      let is : set xs at x ≡ replaced N.key x xs = replaced_at N.key x xs at t.rising a in
      let same : t.used ≡ length (replaced N.key x xs) = omega (arith, ap length is, length-set xs at x, length_content t) in
      let front : set t.rows.now at x ≡ set xs at x ++ drop t.used t.rows.now = ap (λ l. set l at x) (sym (take-append-drop t.used t.rows.now)) ∙ set-append_left xs (drop t.used t.rows.now) at x a.0 in
      record { rows = rows ∙ front ∙ ap₂ (λ ys k. ys ++ drop k t.rows.now) is same; count = same; within = t.within_limit; rises = rising_replaced N.key x xs t.rising }

  pub changes : (t : Table X N) (new ys : List X) → map N.key ys ≡ map N.key (content t)
      → new ≡ ys ++ drop t.used t.rows.now → Rewritten N.key t.rows.now new t.used t.limit ys
  changes t new ys e rows =
      let same : t.used ≡ length ys = omega (arith, length-map ys N.key, length-map (content t) N.key, ap length e, length_content t) in
      record { rows = rows ∙ ap (λ k. ys ++ drop k t.rows.now) same; count = same; within = t.within_limit; rises = rising_same N.key (content t) ys e t.rising }

module _ {X : Type 0} (key : X → ℕ) where
  -- what an insertion answers, and the rows after it
  pub taken : (x : X) (limit : ℕ) (xs : List X) (i : ℕ) → StrictlyRising key xs → NumberAt key (key x) xs i → (insertion key x limit xs ≡ Err NumberTaken) × (enlarged key x limit xs ≡ xs)
  taken x limit xs i r a = let known = lookup_at key (key x) xs i x r a in grind (arith, common_steps)

  pub full : (x : X) (limit : ℕ) (xs : List X) → NoRowHas key (key x) xs → limit ≤ length xs → (insertion key x limit xs ≡ Err Full) × (enlarged key x limit xs ≡ xs)
  full x limit xs a h = let new = lookup_lacks key (key x) xs a in grind (arith, common_steps)

  pub accepted : (x : X) (limit : ℕ) (xs : List X) → NoRowHas key (key x) xs → length xs < limit → (insertion key x limit xs ≡ Ok tt) × (enlarged key x limit xs ≡ added key x xs)
  accepted x limit xs a h = let new = lookup_lacks key (key x) xs a in grind (arith, common_steps)
