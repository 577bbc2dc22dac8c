-- The count so far and what is left decide; no more are counted than were looked at.
use Rattle.costs.specs.Laws.{Counted}
use Rattle.costs.proofs.count_few.Given as goal

abbrev pub invariant-loop-entry : goal.invariant-loop-entry
invariant-loop-entry g l = Counted (λ x. g.T.PartialEq.eq x l.k) l.list l.n l.entry-index
