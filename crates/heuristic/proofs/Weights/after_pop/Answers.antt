use Rattle.std.proofs.Common.{arith, refl}
use Rattle.heuristic.specs.Steady.{popping, popped_by}
use Rattle.heuristic.proofs.Weights.after_pop.Goals as goal

pub copy-requires : goal.copy-requires
copy-requires c =
    let p = c.requires.1 in
    let m = popping _ _ _ _ _ _ p.0 p.1.0 c.requires.0 _ refl p.1.1 in
    record { prices_cheap = m.prices_cheap; place = c.requires.0; wanted = m.wanted; copies = m.news }

pub overflow_sub-result : goal.overflow_sub-result
overflow_sub-result c =
    let p = c.requires.1 in
    omega (arith, c.in-Adds.ensures, popping _ _ _ _ _ _ p.0 p.1.0 c.requires.0 _ refl p.1.1)

pub overflow_add-result : goal.overflow_add-result
overflow_add-result c =
    let p = c.requires.1 in
    omega (arith, c.in-Saves.ensures, popping _ _ _ _ _ _ p.0 p.1.0 c.requires.0 _ refl p.1.1)

pub returns-in-Adds : goal.returns-in-Adds
returns-in-Adds c = λ w goal st.
    let m = popping _ _ _ _ _ _ w goal c.requires.0 _ refl st in
    popped_by _ _ _ _ _ _ w goal c.requires.0 _ _ refl st (omega (arith, c.in-Adds.ensures, m))

pub returns-in-Saves : goal.returns-in-Saves
returns-in-Saves c = λ w goal st. popped_by _ _ _ _ _ _ w goal c.requires.0 _ _ refl st (omega (arith, c.in-Saves.ensures))
