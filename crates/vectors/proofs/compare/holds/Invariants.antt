-- There are so many places, and the first i items are the ones for theirs.
use Rattle.std.proofs.Common.{ℕ, ◌<◌, ◌≤◌, length, get_or, true}
use Rattle.vectors.proofs.compare.holds.Given as goal

abbrev pub invariant-loop-i : goal.invariant-loop-i
invariant-loop-i g l = (l.n ≤ length l.list) × ((k : ℕ) (none : _) → k < l.i → goal.F-post g l.same k (get_or l.list k none) true)
