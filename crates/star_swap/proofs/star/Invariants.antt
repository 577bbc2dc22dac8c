-- The first trail, then a circuit for each key: what is written and the circuits to come are the whole.
use Rattle.star_swap.specs.StarLoop.{Writing}
use Rattle.star_swap.proofs.star.Given as goal

abbrev pub invariant-loop-key : goal.invariant-loop-key
invariant-loop-key l = Writing l.cur l.goal l.fn.steps l.start l.arcs l.steps l.end l.key
