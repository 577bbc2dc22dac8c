-- The window is packed.
use Rattle.window.specs.Keys.{held_keys, held_window}
use Rattle.window.specs.Laws.{keys_by}
use Rattle.builders.proofs.Work.begin.Goals as goal

pub from_ids-requires : goal.from_ids-requires
from_ids-requires c = (keys_by 6 c.args.start.now c.requires.keys, c.requires.short)

pub invariant_of-result : goal.invariant_of-result
invariant_of-result c = held_window _ _ c.from_ids.ensures c.requires.short

pub returns : goal.returns
returns c = rw (held_keys _ _ c.from_ids.ensures c.requires.short, c.new.ensures)
