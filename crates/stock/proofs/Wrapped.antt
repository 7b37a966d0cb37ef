-- Culms by number, through the rows that hold them. Assumes nothing.
use Rattle.std.proofs.Common.{◌≡◌, ℕ, ◌+◌, Bool, true, false, cond, count_by, eqb, ltb, List, [], ◌∷◌, ◌++◌, map, sym, refl, ap, ◌∙◌, ap₂, arith}
use Rattle.std.specs.Option.{option_map}
use Rattle.std.proofs.lemmas.List.Sums.{sum_by-cons}
use Rattle.std.proofs.lemmas.Bool.{cond-false, cond_both}
use Rattle.keyed_table.specs.Rows.{lookup, added, without, replaced}
use Rattle.keyed_table.proofs.Lookups.{by_test}
use Rattle.ledger.specs.Ledger.{culm_key, part_of, bundle}
use Rattle.ledger.specs.declared.culm.Culm.{Culm}
use Rattle.stock.specs.Rows.{row_key, culms_in, bundle_in, aside_count}
use Rattle.stock.specs.declared.row.CulmRow.{CulmRow}

pub lookup_wrapped : (n : ℕ) (rows : List CulmRow) → lookup culm_key n (culms_in rows) ≡ option_map (λ r. r.culm) (lookup row_key n rows)
lookup_wrapped n [] = refl
lookup_wrapped n (r ∷ rs) =
    by_test (eqb (row_key r) n)
    (λ t. simp t)
    (λ f. rw f (lookup_wrapped n rs))

pub added_wrapped : (r : CulmRow) (rows : List CulmRow) → culms_in (added row_key r rows) ≡ added culm_key r.culm (culms_in rows)
added_wrapped r [] = refl
added_wrapped r (x ∷ xs) =
    by_test (ltb (row_key x) (row_key r))
    (λ t. rw t (ap (λ z. x.culm ∷ z) (added_wrapped r xs)))
    (λ f. rw f refl)

pub without_wrapped : (n : ℕ) (rows : List CulmRow) → culms_in (without row_key n rows) ≡ without culm_key n (culms_in rows)
without_wrapped n [] = refl
without_wrapped n (x ∷ xs) =
    by_test (eqb (row_key x) n)
    (λ t. rw t (without_wrapped n xs))
    (λ f. rw f (ap (λ z. x.culm ∷ z) (without_wrapped n xs)))

chosen : (b : Bool) (r x : CulmRow) → (cond b r x).culm ≡ cond b r.culm x.culm
chosen true r x = refl
chosen false r x = refl

pub replaced_wrapped : (r : CulmRow) (rows : List CulmRow) → culms_in (replaced row_key r rows) ≡ replaced culm_key r.culm (culms_in rows)
replaced_wrapped r [] = refl
replaced_wrapped r (x ∷ xs) = ap₂ ◌∷◌ (chosen (eqb (row_key x) (row_key r)) r x) (replaced_wrapped r xs)

-- no row is set aside
abbrev pub AllClear : List CulmRow → Type 0
AllClear [] = Unit {0}
AllClear (r ∷ rs) = (r.aside ≡ false) × AllClear rs

pub bundle_wrapped : (m : ℕ) (rows : List CulmRow) → AllClear rows → bundle_in m rows ≡ bundle m (culms_in rows)
bundle_wrapped m [] c = refl
bundle_wrapped m (r ∷ rs) (c, cs) = ap₂ ◌++◌ (cond-false r.aside [] (part_of m r.culm r.culm.place) c) (bundle_wrapped m rs cs)

one_clear : (b : Bool) → cond {A = ℕ} b 1 0 ≡ 0 → b ≡ false
one_clear true e = absurd (omega arith)
one_clear false e = refl

pub all_clear : (rows : List CulmRow) → aside_count rows ≡ 0 → AllClear rows
all_clear [] e = tt
all_clear (r ∷ rs) e =
    let s : aside_count (r ∷ rs) ≡ cond r.aside 1 0 + aside_count rs = sum_by-cons (λ x. cond x.aside 1 0) r rs in
    (one_clear r.aside (omega arith), all_clear rs (omega arith))

pub none_aside_lem : (rows : List CulmRow) → AllClear rows → aside_count rows ≡ 0
none_aside_lem [] c = refl
none_aside_lem (r ∷ rs) (c, cs) =
    let s : aside_count (r ∷ rs) ≡ cond r.aside 1 0 + aside_count rs = sum_by-cons (λ x. cond x.aside 1 0) r rs in
    let z : ◌≡◌ {A = ℕ} (cond r.aside 1 0) 0 = ap (λ b. cond b 1 0) c in
    omega (arith, none_aside_lem rs cs)

pub clear_added : (x : CulmRow) (rows : List CulmRow) → x.aside ≡ false → AllClear rows → AllClear (added row_key x rows)
clear_added x [] e c = (e, tt)
clear_added x (r ∷ rs) e (c, cs) =
    let rest = clear_added x rs e cs in
    cond_both (ltb (row_key r) (row_key x)) _ _ AllClear (λ _. (c, rest)) (λ _. (e, (c, cs)))

pub clear_without : (n : ℕ) (rows : List CulmRow) → AllClear rows → AllClear (without row_key n rows)
clear_without n [] c = tt
clear_without n (r ∷ rs) (c, cs) =
    let rest = clear_without n rs cs in
    cond_both (eqb (row_key r) n) _ _ AllClear (λ _. rest) (λ _. (c, rest))

pub clear_map : (f : CulmRow → CulmRow) → ((r : CulmRow) → r.aside ≡ false → (f r).aside ≡ false) → (rows : List CulmRow) → AllClear rows → AllClear (map f rows)
clear_map f keeps [] c = tt
clear_map f keeps (r ∷ rs) (c, cs) = (keeps r c, clear_map f keeps rs cs)

pub clear_replaced : (x : CulmRow) (rows : List CulmRow) → x.aside ≡ false → AllClear rows → AllClear (replaced row_key x rows)
clear_replaced x rows e c =
    clear_map (λ r. cond (eqb (row_key r) (row_key x)) x r)
    (λ r k. cond_both (eqb (row_key r) (row_key x)) x r (λ z. z.aside ≡ false) (λ _. e) (λ _. k)) rows c

pub count_wrapped : (p : Culm → Bool) (rows : List CulmRow) → count_by (λ r. p r.culm) rows ≡ count_by p (culms_in rows)
count_wrapped p [] = refl
count_wrapped p (r ∷ rs) =
    sum_by-cons (λ x. cond (p x.culm) 1 0) r rs
    ∙ ap (λ n. cond (p r.culm) 1 0 + n) (count_wrapped p rs)
    ∙ sym (sum_by-cons (λ c. cond (p c) 1 0) r.culm (culms_in rs))
