use Rattle.std.proofs.Common.{rules}
use Rattle.desk_text.specs.Tables.{desk_kind, desk_kinds}
use Rattle.desk_text.proofs.Filled.{made_table}
use Rattle.desk_text.proofs.tables.kinds.Goals as goal

pub returns : goal.returns
unfolding desk_kinds
returns c = made_table _ _ _ 64 desk_kind c.from_fn.ensures.items (λ p q i r b k. search rules)
