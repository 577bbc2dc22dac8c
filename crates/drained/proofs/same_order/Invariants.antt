use Rattle.std.specs.Prelude.{◌-◌}
use Rattle.drained.proofs.Loops.{Draining}
use Rattle.drained.proofs.same_order.Given as goal

abbrev pub invariant-loop-drawn : goal.invariant-loop-drawn
invariant-loop-drawn l = Draining l.initial.list l.list l.open (40 - l.drawn)
