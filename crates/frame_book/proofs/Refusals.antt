-- A refusal that leaves the part it came from leaves the book. Assumes nothing.
use Rattle.std.proofs.Common.{◌≡◌, Ok, Err, OnErr, Result, length}
use mathlib.Core.HLevel.{is_prop→PathP}
use Rattle.std.proofs.Props.{props}
use Rattle.frame_book.specs.declared.book.Book.{Book}

-- a book is told by its parts
pub same_book : (b c : Book) → c.stock ≡ b.stock → c.members ≡ b.members → c.grades ≡ b.grades → c.classes ≡ b.classes → c ≡ b
same_book b c s m g k =
    λ i. record {
      stock = s i;
      members = m i;
      grades = g i;
      classes = k i;
      eight = is_prop→PathP (λ j. length (g j) ≡ 8) (λ j. hlevel props) c.eight b.eight i;
      three = is_prop→PathP (λ j. length (k j) ≡ 3) (λ j. hlevel props) c.three b.three i;
    }

pub on_err : {T E : Type 0} (r : Result T E) {P : Type 0} → P → OnErr r P
on_err (Ok _) p = tt
on_err (Err _) p = p

pub of_parts : {T E : Type 0} (r : Result T E) (b c : Book) → OnErr r (c.stock ≡ b.stock) → OnErr r (c.members ≡ b.members)
    → OnErr r (c.grades ≡ b.grades) → OnErr r (c.classes ≡ b.classes) → OnErr r (c ≡ b)
of_parts (Ok _) b c s m g k = tt
of_parts (Err _) b c s m g k = same_book b c s m g k
