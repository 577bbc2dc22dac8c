-- A byte that is not 255 is a slot.
use Rattle.std.proofs.Common.{rules}
use Rattle.star_swap.specs.Chain.{byte_at}
use Rattle.star_swap.specs.Ended.{has_slot}
use Rattle.star_swap.proofs.Arcs.has.Goals as goal

pub returns : goal.returns
returns c = rw (byte_at c.args.self.now.head c.args.key (search rules)) (has_slot _)
