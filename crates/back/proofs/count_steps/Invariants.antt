use Rattle.lists.specs.View.{nodes_of}
use Rattle.back.proofs.Steps.{Counting}
use Rattle.back.proofs.count_steps.Given as goal

abbrev pub invariant-loop-k : goal.invariant-loop-k
invariant-loop-k l = Counting l.start l.initial.at l.most (nodes_of l.nodes l.n) l.at l.k
