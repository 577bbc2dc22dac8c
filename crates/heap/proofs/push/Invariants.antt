use Rattle.heap.proofs.Sift.{Rises}
use Rattle.heap.proofs.push.Given as goal

abbrev pub invariant-loop-i : goal.invariant-loop-i
invariant-loop-i l = Rises l.initial.list l.list l.len l.i l.e

abbrev pub decreases-loop-i : goal.decreases-loop-i
decreases-loop-i l = l.i
