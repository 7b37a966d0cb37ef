use Rattle.std.proofs.Common.{◌≡◌, ℕ, refl}
use Rattle.ledger.specs.Ledger.{dropped}
use Rattle.ledger.specs.declared.culm.Place.{Place}
use Rattle.ledger.specs.declared.culm.Place.TheVariants.{Rack, Held, Standing}
use Rattle.ledger.proofs.Kept.{length_dropped}
use Rattle.stock.specs.Events.{place_after}
use Rattle.stock.specs.declared.event.Event.TheVariants as E
use Rattle.stock.proofs.Moving.{small_all}
use Rattle.stock.proofs.stock.Stock.release.Goals as goal

same : (m : ℕ) (p : Place) → dropped m p ≡ place_after p (E.Drop m)
same m Rack = refl
same m (Held k) = refl
same m (Standing k) = refl

pub meet_all-requires : goal.meet_all-requires
meet_all-requires c = record { small = small_all c.args.self.now (dropped c.args.member) (E.Drop c.args.member) (same c.args.member) (length_dropped c.args.member) }
