-- The number of a coin, and a coin that has lost worth. It assumes nothing.
use Rattle.std.specs.Prelude.{ℕ, ◌-◌}
use Rattle.keyed_table_samples.specs.declared.coins.Coin.{Coin}

abbrev pub coin_number : Coin → ℕ
coin_number coin = coin.number

-- down to nothing
abbrev pub worn : ℕ → Coin → Coin
worn by coin = record { number = coin.number; worth = coin.worth - by }
