use Rattle.std.proofs.Common.{refl}
use Rattle.lists.proofs.Nodes.{there_room}
use Rattle.lists.proofs.recall.Goals as goal

pub row_at-requires : goal.row_at-requires
row_at-requires c = there_room _ _ _ _ _ refl c.in_ok-i.ensures _ c.requires
