-- The first i places hold what is given for them.
use Rattle.std.proofs.Common.{ℕ, ◌≡◌, ◌<◌, length, get_or}
use Rattle.vectors.proofs.rooms.fill.Given as goal

abbrev pub invariant-loop-i : goal.invariant-loop-i
invariant-loop-i g l = (length l.list ≡ length l.initial.list) × ((k : ℕ) (none : _) → k < l.i → goal.F-post g l.given k (get_or l.list k none))
