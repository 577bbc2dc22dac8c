-- The first i keys are written, the others are held.
use Rattle.window.specs.Keys.{keys_of}
use Rattle.window.specs.Written.{Writing}
use Rattle.window.proofs.PackedState.write.Given as goal

abbrev pub invariant-loop-i : goal.invariant-loop-i
invariant-loop-i l = Writing (keys_of l.initial.s) l.initial.out l.out l.s l.i
