-- No more is written than there is room.
use Rattle.std.proofs.Common.{◌≤◌, length}
use Rattle.desk_cases.proofs.write_out.Given as goal

abbrev pub invariant-loop-i : goal.invariant-loop-i
invariant-loop-i l = l.done ≤ length l.text
