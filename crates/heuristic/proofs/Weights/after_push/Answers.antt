use Rattle.std.proofs.Common.{arith}
use Rattle.heuristic.specs.Steady.{pushing, pushed_is}
use Rattle.heuristic.proofs.Weights.after_push.Goals as goal

pub copy-requires : goal.copy-requires
copy-requires c =
    let p = c.requires.1 in
    let m = pushing _ _ _ _ _ _ p.0 p.1.0 c.requires.0 p.1.1 p.1.2 in
    record { prices_cheap = m.prices_cheap; place = c.requires.0; wanted = m.wanted; copies = m.olds }

pub overflow_add-result : goal.overflow_add-result
overflow_add-result c =
    let p = c.requires.1 in
    omega (arith, c.in-Adds.ensures, pushing _ _ _ _ _ _ p.0 p.1.0 c.requires.0 p.1.1 p.1.2)

pub overflow_sub-result : goal.overflow_sub-result
overflow_sub-result c =
    let p = c.requires.1 in
    omega (arith, c.in-Saves.ensures, pushing _ _ _ _ _ _ p.0 p.1.0 c.requires.0 p.1.1 p.1.2)

pub returns-in-Adds : goal.returns-in-Adds
returns-in-Adds c = λ w goal st z. pushed_is _ _ _ _ _ _ w goal c.requires.0 _ st z (omega (arith, c.in-Adds.ensures))

pub returns-in-Saves : goal.returns-in-Saves
returns-in-Saves c = λ w goal st z.
    let m = pushing _ _ _ _ _ _ w goal c.requires.0 st z in
    pushed_is _ _ _ _ _ _ w goal c.requires.0 _ st z (omega (arith, c.in-Saves.ensures, m))
