use Rattle.std.proofs.Common.{◌≡◌, ℕ, refl}
use Rattle.ledger.specs.Ledger.{struck}
use Rattle.ledger.specs.declared.culm.Place.{Place}
use Rattle.ledger.specs.declared.culm.Place.TheVariants.{Rack, Held, Standing}
use Rattle.ledger.proofs.Kept.{length_struck}
use Rattle.stock.specs.Events.{place_after}
use Rattle.stock.specs.declared.event.Event.TheVariants as E
use Rattle.stock.proofs.Moving.{small_all}
use Rattle.stock.proofs.stock.Stock.strike.Goals as goal

same : (m : ℕ) (p : Place) → struck m p ≡ place_after p (E.Strike m)
same m Rack = refl
same m (Held k) = refl
same m (Standing k) = refl

pub meet_all-requires : goal.meet_all-requires
meet_all-requires c = record { small = small_all c.args.self.now (struck c.args.member) (E.Strike c.args.member) (same c.args.member) (length_struck c.args.member) }
