-- The Dups from p on are taken.
use Rattle.std.specs.Prelude.{◌≡◌, ◌-◌}
use Rattle.heuristic.specs.LeastDup.{gas_in_hand}
use Rattle.heuristic.proofs.least_dup.Given as goal

abbrev pub invariant-loop-p : goal.invariant-loop-p
invariant-loop-p l = l.in_hand ≡ gas_in_hand l.prices l.dup_max (l.dup_max - l.p)
