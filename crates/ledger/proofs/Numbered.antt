-- Lists of rows with numbers of their own, and what is joined from them. Assumes nothing.
use Rattle.std.proofs.Common.{◌≡◌, ℕ, suc, ◌+◌, ◌≤◌, true, false, cond, eqb, ltb, List, [], ◌∷◌, ◌++◌, map, length, Some, None, sym, refl, ap, ◌∙◌, subst, ap₂, arith, length-append}
use Rattle.std.specs.List.{flat_map}
use Rattle.std.proofs.lemmas.Bool.{eqb-true, eqb-false, ne_eqb, cond-true, cond-false}
use Rattle.keyed_table.specs.Rows.{lookup, added, without, replaced}
use Rattle.keyed_table.proofs.Lookups.{by_test}

-- Some is not None
pub no_none : {X P : Type 0} {x : X} → Some x ≡ None → P
no_none e = let z : ◌≡◌ {A = ℕ} 0 1 = cc in let n : ⊥ = omega arith in absurd n

pub no_truth : {P : Type 0} → true ≡ false → P
no_truth e = let z : ◌≡◌ {A = ℕ} 0 1 = cc in let n : ⊥ = omega arith in absurd n

pub inside : {X : Type 0} {x y : X} → Some x ≡ Some y → x ≡ y
inside e = cc

module _ {X : Type 0} (key : X → ℕ) where
  pub lookup_key : (n : ℕ) (xs : List X) (x : X) → lookup key n xs ≡ Some x → key x ≡ n
  lookup_key n [] x e = no_none (sym e)
  lookup_key n (y ∷ ys) x e =
      by_test (eqb (key y) n)
      (λ t. let s : y ≡ x = inside (sym (cond-true _ _ _ t) ∙ e) in ap key (sym s) ∙ eqb-true (key y) n t)
      (λ f. lookup_key n ys x (sym (cond-false _ _ _ f) ∙ e))

  -- no two rows have one number
  abbrev pub Apart : List X → Type 0
  Apart [] = Unit {0}
  Apart (x ∷ xs) = (lookup key (key x) xs ≡ None) × Apart xs

  lookup_added_other : (n : ℕ) (x : X) (xs : List X) → eqb (key x) n ≡ false → lookup key n (added key x xs) ≡ lookup key n xs
  lookup_added_other n x [] f = simp f
  lookup_added_other n x (y ∷ ys) f =
      by_test (ltb (key y) (key x))
      (λ t. rw t (ap (cond (eqb (key y) n) (Some y)) (lookup_added_other n x ys f)))
      (λ g. simp (g, f))

  pub apart_added : (x : X) (xs : List X) → lookup key (key x) xs ≡ None → Apart xs → Apart (added key x xs)
  apart_added x [] e a = (refl, tt)
  apart_added x (y ∷ ys) e (h, a) =
      by_test (eqb (key y) (key x))
      (λ t. no_none (sym (cond-true _ _ _ t) ∙ e))
      (λ f.
      let rest : lookup key (key x) ys ≡ None = sym (cond-false _ _ _ f) ∙ e in
      let other : eqb (key x) (key y) ≡ false = ne_eqb (key x) (key y) (λ s. eqb-false (key y) (key x) f (sym s)) in
      by_test (ltb (key y) (key x))
      (λ t. subst Apart (sym (cond-true (ltb (key y) (key x)) _ _ t)) (lookup_added_other (key y) x ys other ∙ h, apart_added x ys rest a))
      (λ g. subst Apart (sym (cond-false (ltb (key y) (key x)) _ _ g)) (e, (h, a))))

  lookup_without_none : (n k : ℕ) (xs : List X) → lookup key n xs ≡ None → lookup key n (without key k xs) ≡ None
  lookup_without_none n k [] e = refl
  lookup_without_none n k (y ∷ ys) e =
      by_test (eqb (key y) n)
      (λ t. no_none (sym (cond-true _ _ _ t) ∙ e))
      (λ f.
      let rest = lookup_without_none n k ys (sym (cond-false _ _ _ f) ∙ e) in
      by_test (eqb (key y) k) (λ t. rw t rest) (λ g. rw (g, f) rest))

  pub apart_without : (k : ℕ) (xs : List X) → Apart xs → Apart (without key k xs)
  apart_without k [] a = tt
  apart_without k (y ∷ ys) (h, a) =
      by_test (eqb (key y) k)
      (λ t. subst Apart (sym (cond-true (eqb (key y) k) _ _ t)) (apart_without k ys a))
      (λ f. subst Apart (sym (cond-false (eqb (key y) k) _ _ f)) (lookup_without_none (key y) k ys h, apart_without k ys a))

  -- a change that keeps numbers
  module _ (f : X → X) (keeps : (x : X) → key (f x) ≡ key x) where
    lookup_map_none : (n : ℕ) (xs : List X) → lookup key n xs ≡ None → lookup key n (map f xs) ≡ None
    lookup_map_none n [] e = refl
    lookup_map_none n (y ∷ ys) e =
        by_test (eqb (key y) n)
        (λ t. no_none (sym (cond-true _ _ _ t) ∙ e))
        (λ g. rw (keeps y, g) (lookup_map_none n ys (sym (cond-false _ _ _ g) ∙ e)))

    pub apart_map : (xs : List X) → Apart xs → Apart (map f xs)
    apart_map [] a = tt
    apart_map (y ∷ ys) (h, a) = (lookup_map_none (key (f y)) ys (ap (λ n. lookup key n ys) (keeps y) ∙ h), apart_map ys a)

  replacing : X → X → X
  replacing x y = cond (eqb (key y) (key x)) x y

  replacing_keeps : (x y : X) → key (cond (eqb (key y) (key x)) x y) ≡ key y
  replacing_keeps x y = by_test (eqb (key y) (key x)) (λ t. rw t (sym (eqb-true (key y) (key x) t))) (λ f. rw f)

  pub apart_replaced : (x : X) (xs : List X) → Apart xs → Apart (replaced key x xs)
  apart_replaced x xs a = apart_map (λ y. cond (eqb (key y) (key x)) x y) (replacing_keeps x) xs a

  -- what is joined
  module _ {Y : Type 0} (f : X → List Y) where
    pub joined_map : (g : X → X) → ((x : X) → f (g x) ≡ f x) → (xs : List X) → flat_map f (map g xs) ≡ flat_map f xs
    joined_map g same [] = refl
    joined_map g same (y ∷ ys) = ap₂ ◌++◌ (same y) (joined_map g same ys)

    pub joined_added_none : (x : X) (xs : List X) → f x ≡ [] → flat_map f (added key x xs) ≡ flat_map f xs
    joined_added_none x [] e = rw e
    joined_added_none x (y ∷ ys) e =
        by_test (ltb (key y) (key x))
        (λ t. rw t (ap (λ z. f y ++ z) (joined_added_none x ys e)))
        (λ g. rw (g, e))

    -- a row that is not there is not replaced or taken out
    replaced_absent : (x : X) (xs : List X) → lookup key (key x) xs ≡ None → replaced key x xs ≡ xs
    replaced_absent x [] e = refl
    replaced_absent x (y ∷ ys) e =
        by_test (eqb (key y) (key x))
        (λ t. no_none (sym (cond-true _ _ _ t) ∙ e))
        (λ g. ap₂ ◌∷◌ (cond-false (eqb (key y) (key x)) _ _ g) (replaced_absent x ys (sym (cond-false _ _ _ g) ∙ e)))

    without_absent : (n : ℕ) (xs : List X) → lookup key n xs ≡ None → without key n xs ≡ xs
    without_absent n [] e = refl
    without_absent n (y ∷ ys) e =
        by_test (eqb (key y) n)
        (λ t. no_none (sym (cond-true _ _ _ t) ∙ e))
        (λ g. cond-false (eqb (key y) n) _ _ g ∙ ap (λ z. y ∷ z) (without_absent n ys (sym (cond-false _ _ _ g) ∙ e)))

    -- P of what is joined with x for r, from P of what is joined with the same beside it
    pub joined_replaced_same : (x r : X) (xs : List X) → Apart xs → lookup key (key x) xs ≡ Some r → f x ≡ f r → flat_map f (replaced key x xs) ≡ flat_map f xs
    joined_replaced_same x r [] a e s = no_none (sym e)
    joined_replaced_same x r (y ∷ ys) (h, a) e s =
        by_test (eqb (key y) (key x))
        (λ t.
        let is : y ≡ r = inside (sym (cond-true _ _ _ t) ∙ e) in
        let lone : lookup key (key x) ys ≡ None = ap (λ n. lookup key n ys) (sym (eqb-true (key y) (key x) t)) ∙ h in
        ap₂ ◌++◌ (ap f (cond-true (eqb (key y) (key x)) _ _ t) ∙ s ∙ ap f (sym is)) (ap (flat_map f) (replaced_absent x ys lone)))
        (λ g. ap₂ ◌++◌ (ap f (cond-false (eqb (key y) (key x)) _ _ g)) (joined_replaced_same x r ys a (sym (cond-false _ _ _ g) ∙ e) s))

    pub joined_without_none : (n : ℕ) (r : X) (xs : List X) → Apart xs → lookup key n xs ≡ Some r → f r ≡ [] → flat_map f (without key n xs) ≡ flat_map f xs
    joined_without_none n r [] a e s = no_none (sym e)
    joined_without_none n r (y ∷ ys) (h, a) e s =
        by_test (eqb (key y) n)
        (λ t.
        let is : y ≡ r = inside (sym (cond-true _ _ _ t) ∙ e) in
        let lone : lookup key n ys ≡ None = ap (λ k. lookup key k ys) (sym (eqb-true (key y) n t)) ∙ h in
        ap (flat_map f) (cond-true (eqb (key y) n) _ _ t ∙ without_absent n ys lone) ∙ sym (ap (λ z. z ++ flat_map f ys) (ap f is ∙ s)))
        (λ g. ap (flat_map f) (cond-false (eqb (key y) n) _ _ g) ∙ ap (λ z. f y ++ z) (joined_without_none n r ys a (sym (cond-false _ _ _ g) ∙ e) s))

    -- how long what is joined gets
    pub length_replaced : (x r : X) (xs : List X) → Apart xs → lookup key (key x) xs ≡ Some r
        → length (flat_map f (replaced key x xs)) + length (f r) ≡ length (flat_map f xs) + length (f x)
    length_replaced x r [] a e = no_none (sym e)
    length_replaced x r (y ∷ ys) (h, a) e =
        by_test (eqb (key y) (key x))
        (λ t.
        let is : y ≡ r = inside (sym (cond-true _ _ _ t) ∙ e) in
        let lone : lookup key (key x) ys ≡ None = ap (λ n. lookup key n ys) (sym (eqb-true (key y) (key x) t)) ∙ h in
        let here : f (cond (eqb (key y) (key x)) x y) ≡ f x = ap f (cond-true (eqb (key y) (key x)) _ _ t) in
        let rest : flat_map f (replaced key x ys) ≡ flat_map f ys = ap (flat_map f) (replaced_absent x ys lone) in
        omega (
          arith,
          length-append (f (cond (eqb (key y) (key x)) x y)) (flat_map f (replaced key x ys)),
          length-append (f y) (flat_map f ys),
          ap length here,
          ap length rest,
          ap (λ z. length (f z)) is,
        ))
        (λ g.
        let more = length_replaced x r ys a (sym (cond-false _ _ _ g) ∙ e) in
        let here : f (cond (eqb (key y) (key x)) x y) ≡ f y = ap f (cond-false (eqb (key y) (key x)) _ _ g) in
        omega (
          arith,
          length-append (f (cond (eqb (key y) (key x)) x y)) (flat_map f (replaced key x ys)),
          length-append (f y) (flat_map f ys),
          ap length here,
          more,
        ))

    pub length_without : (n : ℕ) (xs : List X) → length (flat_map f (without key n xs)) ≤ length (flat_map f xs)
    length_without n [] = omega arith
    length_without n (y ∷ ys) =
        by_test (eqb (key y) n)
        (λ t. omega (arith, length_without n ys, ap (λ z. length (flat_map f z)) (cond-true (eqb (key y) n) (without key n ys) (y ∷ without key n ys) t), length-append (f y) (flat_map f ys)))
        (λ g.
        omega (
          arith,
          length_without n ys,
          ap (λ z. length (flat_map f z)) (cond-false (eqb (key y) n) (without key n ys) (y ∷ without key n ys) g),
          length-append (f y) (flat_map f ys),
          length-append (f y) (flat_map f (without key n ys)),
        ))

  -- how many rows there are
  pub count_added : (x : X) (xs : List X) → length (added key x xs) ≡ length xs + 1
  count_added x [] = refl
  count_added x (y ∷ ys) =
      by_test (ltb (key y) (key x))
      (λ t. omega (arith, ap length (cond-true (ltb (key y) (key x)) (y ∷ added key x ys) (x ∷ y ∷ ys) t), count_added x ys))
      (λ g. omega (arith, ap length (cond-false (ltb (key y) (key x)) (y ∷ added key x ys) (x ∷ y ∷ ys) g)))

  pub count_without : (n : ℕ) (r : X) (xs : List X) → Apart xs → lookup key n xs ≡ Some r → length (without key n xs) + 1 ≡ length xs
  count_without n r [] a e = no_none (sym e)
  count_without n r (y ∷ ys) (h, a) e =
      by_test (eqb (key y) n)
      (λ t.
      let lone : lookup key n ys ≡ None = ap (λ k. lookup key k ys) (sym (eqb-true (key y) n t)) ∙ h in
      omega (arith, ap length (cond-true (eqb (key y) n) (without key n ys) (y ∷ without key n ys) t), ap length (without_absent {Y = X} (λ z. []) n ys lone)))
      (λ g.
      omega (arith, ap length (cond-false (eqb (key y) n) (without key n ys) (y ∷ without key n ys) g), count_without n r ys a (sym (cond-false _ _ _ g) ∙ e)))

  pub count_map : (f : X → X) (xs : List X) → length (map f xs) ≡ length xs
  count_map f [] = refl
  count_map f (y ∷ ys) = ap suc (count_map f ys)
