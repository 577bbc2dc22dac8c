-- The keys so far are counted.
use Rattle.std.specs.Prelude.{take}
use Rattle.heuristic.specs.Counts.{Counted}
use Rattle.heuristic.proofs.count_list.Given as goal

abbrev pub invariant-loop-key : goal.invariant-loop-key
invariant-loop-key l = Counted l.table (take l.key-index l.list)
