use Rattle.std.proofs.Common.{rules}
use Rattle.desk_text.specs.Tables.{desk_price, desk_prices}
use Rattle.desk_text.proofs.Filled.{made_table}
use Rattle.desk_text.proofs.tables.prices.Goals as goal

pub returns : goal.returns
unfolding desk_prices
returns c = made_table _ _ _ 196 desk_price c.from_fn.ensures.items (λ p q i r b k. search rules)
