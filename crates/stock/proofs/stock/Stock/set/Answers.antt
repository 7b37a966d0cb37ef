use Rattle.std.proofs.Common.{◌≡◌, ℕ, length, refl, ap, arith}
use Rattle.ledger.specs.Ledger.{raised}
use Rattle.ledger.specs.declared.culm.Place.{Place}
use Rattle.ledger.specs.declared.culm.Place.TheVariants.{Rack, Held, Standing}
use Rattle.ledger.proofs.Kept.{part_raised}
use Rattle.stock.specs.Events.{place_after}
use Rattle.stock.specs.declared.event.Event.TheVariants as E
use Rattle.stock.proofs.Moving.{small_all}
use Rattle.stock.proofs.stock.Stock.set.Goals as goal

same : (m : ℕ) (p : Place) → raised m p ≡ place_after p (E.Set m)
same m Rack = refl
same m (Held k) = refl
same m (Standing k) = refl

pub meet_all-requires : goal.meet_all-requires
meet_all-requires c = record { small = small_all c.args.self.now (raised c.args.member) (E.Set c.args.member) (same c.args.member) (λ k x p. omega (arith, ap length (part_raised c.args.member k x p))) }
