-- Keys in a place for 64: what stands behind them.
use Rattle.std.specs.Prelude.{ℕ, ◌-◌, List, ◌++◌, length, replicate}

-- numbers, and zeros behind them up to 64 places
abbrev pub padded : List ℕ → List ℕ
padded ks = ks ++ replicate (64 - length ks) 0
