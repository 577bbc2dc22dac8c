use Rattle.nodes.proofs.Lemmas.{Walk, left}
use Rattle.nodes.proofs.find.Given as goal

abbrev pub invariant-loop-cur : goal.invariant-loop-cur
invariant-loop-cur l = Walk l.nodes l.heads l.n l.state l.cur

abbrev pub decreases-loop-cur : goal.decreases-loop-cur
decreases-loop-cur l = left l.cur
