-- The slots that are passed are written.
use Rattle.std.specs.Prelude.{take}
use Rattle.star_swap.specs.Star.{codes}
use Rattle.star_swap.specs.StarCode.{Wrote}
use Rattle.star_swap.proofs.write.Given as goal

abbrev pub invariant-loop-slot : goal.invariant-loop-slot
invariant-loop-slot l = Wrote l.initial.steps l.start (codes (take l.slot-index l.slots)) l.steps l.end
