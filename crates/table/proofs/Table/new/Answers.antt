use Rattle.std.proofs.Common.{arith}
use Rattle.heuristic.specs.Counts.{count_none}
use Rattle.window.specs.Laws.{key_lt}
use Rattle.table.proofs.Table.new.Goals as goal

pub count_list-requires : goal.count_list-requires
count_list-requires c =
    let b = c.requires.1.bounds in
    (λ i l. key_lt 6 c.args.goal.now i b.keys, omega (arith, b.goal), count_none)
