-- What an event does to a culm, by its place: the whole table, with none where the event does not fit the place. Assumes nothing.
use Rattle.std.specs.Prelude.{cond, Some, None, Option, ◌==◌}
use Rattle.ledger.specs.declared.culm.Place.{Place}
use Rattle.ledger.specs.declared.culm.Place.TheVariants.{Rack, Held, Standing}
use Rattle.stock.specs.declared.event.Event.{Event}
use Rattle.stock.specs.declared.event.Event.TheVariants.{Hold, Free, Set, Drop, Strike, Scrap}
use Rattle.stock.specs.declared.event.Meeting.{Meeting}
use Rattle.stock.specs.declared.event.Meeting.TheVariants.{Moved, Out}

abbrev pub meeting : Place → Event → Option Meeting
meeting Rack (Hold m) = Some Moved
meeting Rack (Free m) = None
meeting Rack (Set m) = None
meeting Rack (Drop m) = None
meeting Rack (Strike m) = None
meeting Rack Scrap = Some Out
meeting (Held k) (Hold m) = None
meeting (Held k) (Free m) = cond (k == m) (Some Moved) None
meeting (Held k) (Set m) = cond (k == m) (Some Moved) None
meeting (Held k) (Drop m) = cond (k == m) (Some Moved) None
meeting (Held k) (Strike m) = None
meeting (Held k) Scrap = None
meeting (Standing k) (Hold m) = None
meeting (Standing k) (Free m) = None
meeting (Standing k) (Set m) = None
meeting (Standing k) (Drop m) = None
meeting (Standing k) (Strike m) = cond (k == m) (Some Moved) None
meeting (Standing k) Scrap = None

abbrev pub place_after : Place → Event → Place
place_after Rack (Hold m) = Held m
place_after Rack (Free m) = Rack
place_after Rack (Set m) = Rack
place_after Rack (Drop m) = Rack
place_after Rack (Strike m) = Rack
place_after Rack Scrap = Rack
place_after (Held k) (Hold m) = Held k
place_after (Held k) (Free m) = cond (k == m) Rack (Held k)
place_after (Held k) (Set m) = cond (k == m) (Standing k) (Held k)
place_after (Held k) (Drop m) = cond (k == m) Rack (Held k)
place_after (Held k) (Strike m) = Held k
place_after (Held k) Scrap = Held k
place_after (Standing k) (Hold m) = Standing k
place_after (Standing k) (Free m) = Standing k
place_after (Standing k) (Set m) = Standing k
place_after (Standing k) (Drop m) = Standing k
place_after (Standing k) (Strike m) = cond (k == m) Rack (Standing k)
place_after (Standing k) Scrap = Standing k
