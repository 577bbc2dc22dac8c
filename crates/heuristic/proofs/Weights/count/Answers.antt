use Rattle.std.proofs.Common.{arith}
use Rattle.heuristic.specs.Steady.{few_counted, standing_on}
use Rattle.heuristic.proofs.Weights.count.Goals as goal

pub overflow_add-have : goal.overflow_add-have
overflow_add-have c =
    let p = c.requires.1 in
    omega (arith, few_counted _ _ _ _ _ _ p.0 p.1.0 c.requires.0 p.1.1 p.1.2)

pub returns : goal.returns
returns c = λ w goal st z. standing_on _ _ _ _ _ _ w goal c.requires.0 st z _ (c.after_push-h.ensures w goal st z)
