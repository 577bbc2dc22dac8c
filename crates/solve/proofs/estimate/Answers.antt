use Rattle.heuristic.specs.Counts.{count_none}
use Rattle.solve.proofs.Laws.{estimated}
use Rattle.solve.proofs.estimate.Goals as goal

pub standing-gas-requires : goal.standing-gas-requires
standing-gas-requires c = (c.requires, count_none)

pub returns : goal.returns
returns c = estimated c.args.question.now _ _ _ _ c.standing-gas.ensures c.from.ensures
