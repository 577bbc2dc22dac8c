-- The places from i on are in the table.
use Rattle.std.specs.Prelude.{take, drop}
use Rattle.successors.specs.Places.{Placed}
use Rattle.successors.proofs.Reached.new.Given as goal

abbrev pub invariant-loop-i : goal.invariant-loop-i
invariant-loop-i l = Placed l.first l.i (drop l.i (take l.reach l.w))
