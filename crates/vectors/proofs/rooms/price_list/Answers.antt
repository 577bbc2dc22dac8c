use Rattle.std.proofs.Common.{rules}
use Rattle.vectors.proofs.Made.{made}
use Rattle.vectors.proofs.rooms.price_list.Goals as goal

pub returns-clause-filled : goal.returns-clause-filled
returns-clause-filled c = made _ _ _ _ (λ i y q k. search rules) c.from_fn.ensures.items
