-- The rows past the limits, through no call, and through one call and another. Assumes nothing.
use Rattle.std.proofs.Common.{◌≡◌, ℕ, drop, ◌∙◌, subst}
use Rattle.stock.specs.Stocks.{Beyond}
use Rattle.stock.specs.declared.stock.Stock.{Stock}
use Rattle.frame_book.specs.Books.{Past}
use Rattle.frame_book.specs.declared.book.Book.{Book}

beyond_beyond : {a b c : Stock} → Beyond a b → Beyond b c → Beyond a c
beyond_beyond {a} {b} {c} p q = record {
  limit = q.limit ∙ p.limit;
  rows = subst (λ (n : ℕ). drop n c.rows.rows.now ≡ drop n b.rows.rows.now) p.limit q.rows ∙ p.rows;
}

pub past_past : {a b c : Book} → Past a b → Past b c → Past a c
past_past {a} {b} {c} p q = record {
  culms = beyond_beyond p.culms q.culms;
  member_limit = q.member_limit ∙ p.member_limit;
  members = subst (λ (n : ℕ). drop n c.members.rows.now ≡ drop n b.members.rows.now) p.member_limit q.members ∙ p.members;
}
