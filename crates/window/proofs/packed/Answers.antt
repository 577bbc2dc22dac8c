use Rattle.std.proofs.Common.{arith, sym, ◌∙◌}
use Rattle.window.specs.Laws.{keys_of_lem}
use Rattle.window.proofs.packed.Goals as goal

pub from_ids-requires : goal.from_ids-requires
from_ids-requires c = (keys_of_lem 6 _ (sym c.any_over.ensures ∙ c.if-any_over.false), omega arith)
