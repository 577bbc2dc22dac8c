use Prim.Native.Nat.{◌-◌}
use Rattle.heap.proofs.Sift.{Falls}
use Rattle.heap.proofs.fall.Given as goal

abbrev pub invariant-loop-i : goal.invariant-loop-i
invariant-loop-i l = Falls l.initial.list l.list l.len l.i l.e

abbrev pub decreases-loop-i : goal.decreases-loop-i
decreases-loop-i l = l.len - l.i
