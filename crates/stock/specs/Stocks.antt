-- What a stock holds, and what a call leaves alone. Assumes nothing.
use Rattle.std.specs.Prelude.{◌≡◌, ℕ, List, drop}
use Rattle.keyed_table.specs.Tables.{content}
use Rattle.ledger.specs.Ledger.{at}
use Rattle.ledger.specs.declared.culm.Culm.{Culm}
use Rattle.stock.specs.Events.{place_after}
use Rattle.stock.specs.Rows.{culms_in}
use Rattle.stock.specs.declared.event.Event.{Event}
use Rattle.stock.specs.declared.stock.Stock.{Stock}

-- the culms, by rising number
abbrev pub held : Stock → List Culm
held s = culms_in (content s.rows)

-- how many it may hold
abbrev pub room : Stock → ℕ
room s = s.rows.limit

-- the room is as it was, and so is every row past it: a clause of each call and no field of the stock, since it speaks of two stocks
pub record Beyond (s t : Stock) : Type 0 where
  pub limit : room t ≡ room s
  pub rows : drop (room s) t.rows.rows.now ≡ drop (room s) s.rows.rows.now

-- a culm that an event has met
abbrev pub met_by : Event → Culm → Culm
met_by e c = at (place_after c.place e) c
