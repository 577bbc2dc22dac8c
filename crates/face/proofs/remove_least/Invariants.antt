use Rattle.std.proofs.Common.{◌-◌, ◌≡◌, ◌<◌, ◌≤◌, length}
use Rattle.face.specs.Open.{least_from, least_at}
use Rattle.face.proofs.remove_least.Given as goal

-- The scan stands at k and i: what it finds from there is what it finds from the start.
abbrev pub invariant-loop-i : goal.invariant-loop-i
invariant-loop-i l = record {
  behind : l.k < l.i;
  upto : l.i ≤ l.len;
  room : l.len ≤ length l.open;
  finds : least_from l.open l.k l.i (l.len - l.i) ≡ least_at l.open l.len;
}
