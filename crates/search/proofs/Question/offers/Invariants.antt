use Rattle.offer.specs.View.{work_of}
use Rattle.search.proofs.Laws.{Offered}
use Rattle.search.proofs.Question.offers.Given as goal

abbrev pub invariant-loop-step : goal.invariant-loop-step
invariant-loop-step l = Offered l.self l.held l.p l.steps (work_of l.initial.nodes l.initial.list l.initial.at) l.initial.at l.step-index l.nodes l.heads l.list l.at
