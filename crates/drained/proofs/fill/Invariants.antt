use Rattle.drained.proofs.Loops.{Filling}
use Rattle.drained.proofs.fill.Given as goal

abbrev pub invariant-loop-i : goal.invariant-loop-i
invariant-loop-i l = Filling l.initial.list l.list l.open l.i
