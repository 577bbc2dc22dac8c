use Rattle.std.specs.Prelude.{take}
use Rattle.std.proofs.Common.{arith, length-take}
use Rattle.heuristic.specs.Counts.{count_on, count_small}
use Rattle.heuristic.proofs.count_list.Goals as goal

pub overflow_add-table : goal.overflow_add-table
overflow_add-table c =
    let l = c.loop-key in
    let n = length-take l.key-index c.args.list.now in
    omega (arith, count_small l.table (take l.key-index c.args.list.now) _ (omega arith) (c.requires.0 l.key-index c.loop-key-test.true) l.invariant)

pub loop-key-preserved : goal.loop-key-preserved
loop-key-preserved c =
    let l = c.loop-key in
    count_on l.table c.args.list.now l.key-index c.loop-key-test.true (c.requires.0 l.key-index c.loop-key-test.true) l.invariant
