use Rattle.std.proofs.Common.{arith}
use Rattle.search.proofs.Laws.{cost_below, drawn_is}
use Rattle.search.proofs.Question.drawn.Goals as goal

pub overflow_sub-result : goal.overflow_sub-result
overflow_sub-result c = cost_below c.args.self.now _ c.requires.1 _ _ c.from-gas.ensures c.from.ensures

pub returns : goal.returns
returns c = drawn_is c.args.self.now _ c.requires.1 _ _ c.from-gas.ensures c.from.ensures _ c.requires.0 c.count_window.ensures (omega arith) c.if-gas.false
