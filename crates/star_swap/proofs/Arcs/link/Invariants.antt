-- From the last slot up, each misplaced slot goes in front of its list.
use Rattle.std.specs.Prelude.{◌<◌}
use Rattle.star_swap.specs.StarCode.{LinkedAt}
use Rattle.star_swap.proofs.Arcs.link.Given as goal

abbrev pub invariant-loop-slot : goal.invariant-loop-slot
invariant-loop-slot l = LinkedAt l.cur l.goal l.slot l.self × (0 < l.slot)
