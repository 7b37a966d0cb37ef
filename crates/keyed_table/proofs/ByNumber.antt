-- What is at a place, and what an edit there leaves, told by number. It assumes nothing.
use Rattle.std.proofs.Common.{◌≡◌, ℕ, zero, suc, ◌<◌, true≢false, List, [], ◌∷◌, length, get_or, set, Option, Some, None, Ok, Err, sym, refl, ap, ◌∙◌, subst, arith}
use Rattle.std.specs.List.{insert, remove}
use Rattle.std.specs.Option.{is_some, ok_or}
use Rattle.std.proofs.lemmas.Grind.{common_steps}
use Rattle.keyed_table.specs.Rows.{StrictlyRising, NumberAt, NoRowHas, Found, lookup, added, without, replaced, below}
use Rattle.keyed_table.proofs.Orders.{From, from, from_row, from_lacks, lacks_tail}

module _ {X : Type 0} (key : X → ℕ) where
  -- the number of a row x, under another name
  pub at_own : (x : X) (n : ℕ) (xs : List X) (i : ℕ) → n ≡ key x → NumberAt key n xs i → NumberAt key (key x) xs i
  at_own x n xs i e = subst (λ m. NumberAt key m xs i) e

  pub lacks_own : (x : X) (n : ℕ) (xs : List X) → n ≡ key x → NoRowHas key n xs → NoRowHas key (key x) xs
  lacks_own x n xs e = subst (λ m. NoRowHas key m xs) e

  -- no row has the number
  pub lookup_lacks : (n : ℕ) (xs : List X) → NoRowHas key n xs → lookup key n xs ≡ None
  lookup_lacks n [] a = refl
  lookup_lacks n (x ∷ xs) a = let rest = lookup_lacks n xs (lacks_tail key n x xs a) in let first = a 0 x (omega arith) in grind (arith, common_steps)

  pub without_lacks : (n : ℕ) (xs : List X) → NoRowHas key n xs → without key n xs ≡ xs
  without_lacks n [] a = refl
  without_lacks n (x ∷ xs) a = let rest = without_lacks n xs (lacks_tail key n x xs a) in let first = a 0 x (omega arith) in grind (arith, common_steps)

  pub replaced_lacks : (x : X) (xs : List X) → NoRowHas key (key x) xs → replaced key x xs ≡ xs
  replaced_lacks x [] a = refl
  replaced_lacks x (y ∷ ys) a = let rest = replaced_lacks x ys (lacks_tail key (key x) y ys a) in let first = a 0 y (omega arith) in grind (arith, common_steps)

  -- the row at a place has it
  lookup_from : (m n : ℕ) (xs : List X) (i : ℕ) (r : X) → From key m xs → i < length xs → key (get_or xs i r) ≡ n → lookup key n xs ≡ Some (get_or xs i r)
  lookup_from m n [] i r f h e = absurd (omega arith)
  lookup_from m n (x ∷ xs) zero r f h e = grind (arith, common_steps)
  lookup_from m n (x ∷ xs) (suc i) r f h e =
      let rest = lookup_from (suc (key x)) n xs i r f.1 (omega arith) e in
      let low = from_row key (suc (key x)) xs i r f.1 (omega arith) in
      grind (arith, common_steps)

  pub lookup_at : (n : ℕ) (xs : List X) (i : ℕ) (r : X) → StrictlyRising key xs → NumberAt key n xs i → lookup key n xs ≡ Some (get_or xs i r)
  lookup_at n xs i r u a = lookup_from 0 n xs i r (from key xs u) a.0 (a.1 r)

  pub lookup_read : (n : ℕ) (xs rows : List X) (i : ℕ) (r : X) → StrictlyRising key xs → NumberAt key n xs i → rows ≡ xs → r ≡ get_or rows i r → lookup key n xs ≡ Some r
  lookup_read n xs rows i r u a w e = lookup_at n xs i r u a ∙ ap Some (sym (e ∙ ap (λ ys. get_or ys i r) w))

  -- what is read at the place that was found
  pub lookup_found : (n : ℕ) (xs : List X) (r : Option ℕ) (o : Option X) → StrictlyRising key xs → Found key n xs r
      → is_some o ≡ is_some r → ((i : ℕ) (x : X) → r ≡ Some i → o ≡ Some x → x ≡ get_or xs i x) → o ≡ lookup key n xs
  lookup_found n xs None None u a e h = sym (lookup_lacks n xs a)
  lookup_found n xs None (Some x) u a e h = absurd (true≢false e)
  lookup_found n xs (Some i) None u a e h = absurd (true≢false (sym e))
  lookup_found n xs (Some i) (Some x) u a e h = sym (lookup_read n xs xs i x u a refl (h i x refl refl))

  -- what a place that was found, or a refusal in its stead, tells
  pub found_ok : {E : Type 0} (n : ℕ) (xs : List X) (r : Option ℕ) (e : E) (i : ℕ) → Found key n xs r → ok_or r e ≡ Ok i → NumberAt key n xs i
  found_ok n xs None e i a q = absurd (grind arith)
  found_ok n xs (Some j) e i a q = let same : j ≡ i = grind arith in subst (NumberAt key n xs) same a

  pub found_err : {E : Type 0} (n : ℕ) (xs : List X) (r : Option ℕ) (e x : E) → Found key n xs r → ok_or r e ≡ Err x → NoRowHas key n xs
  found_err n xs None e x a q = a
  found_err n xs (Some j) e x a q = absurd (grind arith)

  without_from : (m n : ℕ) (xs : List X) (i : ℕ) (d : X) → From key m xs → i < length xs → key (get_or xs i d) ≡ n → remove xs i ≡ without key n xs
  without_from m n [] i d f h e = absurd (omega arith)
  without_from m n (x ∷ xs) zero d f h e = let rest = without_lacks n xs (from_lacks key (suc (key x)) n xs (omega arith) f.1) in grind (arith, common_steps)
  without_from m n (x ∷ xs) (suc i) d f h e =
      let rest = without_from (suc (key x)) n xs i d f.1 (omega arith) e in
      let low = from_row key (suc (key x)) xs i d f.1 (omega arith) in
      grind (arith, common_steps)

  pub without_at : (n : ℕ) (xs : List X) (i : ℕ) (d : X) → StrictlyRising key xs → NumberAt key n xs i → remove xs i ≡ without key n xs
  without_at n xs i d u a = without_from 0 n xs i d (from key xs u) a.0 (a.1 d)

  replaced_from : (m : ℕ) (x : X) (xs : List X) (i : ℕ) → From key m xs → i < length xs → key (get_or xs i x) ≡ key x → set xs i x ≡ replaced key x xs
  replaced_from m x [] i f h e = absurd (omega arith)
  replaced_from m x (y ∷ ys) zero f h e = let rest = replaced_lacks x ys (from_lacks key (suc (key y)) (key x) ys (omega arith) f.1) in grind (arith, common_steps)
  replaced_from m x (y ∷ ys) (suc i) f h e =
      let rest = replaced_from (suc (key y)) x ys i f.1 (omega arith) e in
      let low = from_row key (suc (key y)) ys i x f.1 (omega arith) in
      grind (arith, common_steps)

  pub replaced_at : (x : X) (xs : List X) (i : ℕ) → StrictlyRising key xs → NumberAt key (key x) xs i → set xs i x ≡ replaced key x xs
  replaced_at x xs i u a = replaced_from 0 x xs i (from key xs u) a.0 (a.1 x)

  -- a row goes to the place of its number
  pub added_at : (x : X) (xs : List X) → insert xs (below key (key x) xs) x ≡ added key x xs
  added_at x [] = refl
  added_at x (y ∷ ys) = let rest = added_at x ys in grind (arith, common_steps)
