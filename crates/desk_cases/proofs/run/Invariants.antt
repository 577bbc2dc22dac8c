-- A case takes bytes of the table.
use Rattle.std.proofs.Common.{◌+◌, ◌≤◌, length}
use Rattle.desk_cases.proofs.run.Given as goal

abbrev pub invariant-loop-case : goal.invariant-loop-case
invariant-loop-case g l = l.count + length l.rest ≤ length l.table

abbrev pub decreases-loop-case : goal.decreases-loop-case
decreases-loop-case g l = length l.rest
