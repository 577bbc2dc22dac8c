use Rattle.heuristic.specs.Counts.{count_none}
use Rattle.search.proofs.Laws.{window_held, all_can}
use Rattle.search.proofs.Question.expand_drawn.Goals as goal

pub expand-steps-requires : goal.expand-steps-requires
expand-steps-requires c = window_held c.args.self.now _ c.requires.awaits.window

pub drawn-h-requires : goal.drawn-h-requires
drawn-h-requires c = (window_held c.args.self.now _ c.requires.awaits.window, c.requires.awaits, count_none)

pub offers-requires-clause-can_do : goal.offers-requires-clause-can_do
offers-requires-clause-can_do c = rw c.deref.ensures.0 (all_can c.args.self.now _ c.requires.awaits.window _ _ c.expand-steps.ensures)
