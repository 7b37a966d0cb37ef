-- What is gathered row by row. Assumes nothing.
use Rattle.std.proofs.Common.{◌≡◌, ℕ, zero, suc, Bool, true, false, cond, count_by, ◌+◌, ◌<◌, ◌≤◌, List, [], ◌∷◌, ◌++◌, length, get_or, take, drop, Some, None, Option, sym, refl, ap, ◌∙◌, arith}
use Rattle.std.specs.List.{flat_map, AllWithin}
use Rattle.std.proofs.lemmas.List.Sums.{sum_by-cons}
use Rattle.std.proofs.lemmas.List.Folds.{length-flat_map-take}
use Rattle.std.proofs.lemmas.List.{flat_map_more, take_more, drop_more, drop_all, map-append, length-map}
use Rattle.quantities.specs.Bundles.{culms_of}
use Rattle.quantities.specs.declared.bundle.Bundle.{Bundle}
use Rattle.ledger.specs.Ledger.{Piece, piece_of, basis_of, at}
use Rattle.ledger.specs.Table.{question_of, grade_held}
use Rattle.ledger.specs.declared.culm.Culm.{Culm}
use Rattle.ledger.specs.declared.culm.Place.{Place}
use Rattle.ledger.specs.declared.culm.Place.TheVariants.{Rack, Held, Standing}
use Rattle.ledger.specs.declared.member.Member.{Member}
use Rattle.ledger.proofs.Numbered.{no_none, inside}
use Rattle.stock.specs.Gathering.{extended, Room}
use Rattle.stock.specs.Rows.{as_question, bundle_in, part_in, is_part}
use Rattle.stock.specs.declared.row.CulmRow.{CulmRow}

pub joined_next : {X Y : Type 0} (f : X → List Y) (xs : List X) (i : ℕ) (d : X) → i < length xs
    → flat_map f (take (i + 1) xs) ≡ flat_map f (take i xs) ++ f (get_or xs i d)
joined_next f xs i d h = ap (flat_map f) (take_more xs i d h) ∙ sym (flat_map_more f [] (take i xs) (get_or xs i d))

pub question_more : (ps : List Piece) (p : Piece) (m : Member) → question_of (ps ++ (p ∷ [])) m ≡ extended (question_of ps m) p m
question_more [] p m = refl
question_more (q ∷ ps) p m = ap (λ z. Some (record { culms = q.readings ∷ z; basis = basis_of q.strengths m; forces = m.forces })) (map-append (λ x. x.readings) ps (p ∷ []))

-- how many culms a gathered bundle has
pub gathered_count : (b : Bundle) (ps : List Piece) (m : Member) → as_question (Some b) m ≡ question_of ps m → length (culms_of b) ≡ length ps
gathered_count b [] m e = no_none e
gathered_count b (p ∷ ps) m e = ap (λ z. length z.culms) (inside e) ∙ length-map (p ∷ ps) (λ x. x.readings)

pub room_for : (o : Option Bundle) (ps : List Piece) (m : Member) → as_question o m ≡ question_of ps m → length ps < 16 → Room o
room_for None ps m e h = tt
room_for (Some b) ps m e h = omega (arith, gathered_count b ps m e)

pub one_more : (o : Option Bundle) (x : Bundle) (ps : List Piece) (p : Piece) (m : Member) → as_question o m ≡ question_of ps m
    → as_question (Some x) m ≡ extended (as_question o m) p m → as_question (Some x) m ≡ question_of (ps ++ (p ∷ [])) m
one_more o x ps p m e f = f ∙ ap (λ q. extended q p m) e ∙ sym (question_more ps p m)

-- a row is one piece of the bundle, or none
part_by : (m : ℕ) (b : Bool) (c : Culm) (p : Place) → part_in m (record { culm = at p c; aside = b }) ≡ cond (is_part m (record { culm = at p c; aside = b })) (piece_of c ∷ []) []
part_by m true c p = refl
part_by m false c Rack = refl
part_by m false c (Held k) = refl
part_by m false c (Standing k) = refl

pub part_is : (m : ℕ) (r : CulmRow) → part_in m r ≡ cond (is_part m r) (piece_of r.culm ∷ []) []
part_is m r = part_by m r.aside r.culm r.culm.place

-- one row more
pub next_row : (m : ℕ) (rows : List CulmRow) (i : ℕ) (row : CulmRow) (ps : List Piece) → i < length rows → row ≡ get_or rows i row → part_in m row ≡ ps
    → bundle_in m (take (i + 1) rows) ≡ bundle_in m (take i rows) ++ ps
next_row m rows i row ps h e is = joined_next (part_in m) rows i row h ∙ ap (λ qs. bundle_in m (take i rows) ++ qs) (ap (part_in m) (sym e) ∙ is)

pub small_before : (m : ℕ) (rows : List CulmRow) (i : ℕ) (row : CulmRow) (p : Piece) → i < length rows → row ≡ get_or rows i row → part_in m row ≡ p ∷ []
    → length (bundle_in m rows) ≤ 16 → length (bundle_in m (take i rows)) < 16
small_before m rows i row p h e is few =
    let here : length (part_in m (get_or rows i row)) ≡ 1 = ap (λ r. length (part_in m r)) (sym e) ∙ ap length is in
    omega (arith, length-flat_map-take (part_in m) rows i row h)

one_counted : (b : Bool) (p : Piece) (n : ℕ) (ps : List Piece) → n ≡ length ps → cond b 1 0 + n ≡ length (cond b (p ∷ []) [] ++ ps)
one_counted true p n ps e = omega (arith, ap suc e)
one_counted false p n ps e = omega (arith, e)

pub count_parts : (m : ℕ) (rows : List CulmRow) → count_by (is_part m) rows ≡ length (bundle_in m rows)
count_parts m [] = refl
count_parts m (r ∷ rs) =
    sum_by-cons (λ x. cond (is_part m x) 1 0) r rs
    ∙ one_counted (is_part m r) (piece_of r.culm) _ _ (count_parts m rs)
    ∙ sym (ap (λ ps. length (ps ++ bundle_in m rs)) (part_is m r))

-- rows in front of which none is a part
pub none_before : (m : ℕ) (rows : List CulmRow) (n : ℕ) → n ≤ length rows → AllWithin (λ r. is_part m r ≡ false) rows 0 n → bundle_in m rows ≡ bundle_in m (drop n rows)
none_before m rows zero h none = refl
none_before m [] (suc n) h none = refl
none_before m (r ∷ rs) (suc n) h none =
    ap (λ ps. ps ++ bundle_in m rs) (part_is m r ∙ ap (λ b. cond b (piece_of r.culm ∷ []) []) (none 0 r (omega arith) (omega arith)))
    ∙ none_before m rs n (omega (arith, h)) (λ k d low high. none (suc k) d (omega arith) (omega (arith, high)))

-- rows of which none is a part
pub no_parts : (m : ℕ) (rows : List CulmRow) → AllWithin (λ r. is_part m r ≡ false) rows 0 (length rows) → bundle_in m rows ≡ []
no_parts m rows none = none_before m rows (length rows) (omega arith) none ∙ ap (bundle_in m) (drop_all (length rows) rows (omega arith))

-- the first part tells the grade
pub grade_of_first : (m : ℕ) (rows : List CulmRow) (i : ℕ) (d : CulmRow) → i < length rows → is_part m (get_or rows i d) ≡ true → AllWithin (λ r. is_part m r ≡ false) rows 0 i
    → grade_held (bundle_in m rows) ≡ Some (get_or rows i d).culm.grade
grade_of_first m rows i d h is none =
    let r = get_or rows i d in
    ap grade_held (none_before m rows i (omega (arith, h)) none
    ∙ ap (bundle_in m) (drop_more rows i d h)
    ∙ ap (λ ps. ps ++ bundle_in m (drop (i + 1) rows)) (part_is m r ∙ ap (λ b. cond b (piece_of r.culm ∷ []) []) is))
