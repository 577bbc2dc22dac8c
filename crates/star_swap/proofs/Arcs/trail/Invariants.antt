-- The loop of the definition, over the table of arcs.
use Rattle.std.specs.Prelude.{◌≡◌, ◌+◌, ◌*◌, ◌-◌, ◌≤◌, length, drop}
use Rattle.star_swap.specs.TrailCode.{TrailInv}
use Rattle.star_swap.proofs.Arcs.trail.Given as goal

abbrev pub invariant-loop-slot : goal.invariant-loop-slot
invariant-loop-slot l = TrailInv l.cur l.start l.fn.self l.self (drop l.first l.slots) l.stack.items l.key × (l.first ≤ 20) × (length l.slots ≡ 20)

abbrev pub decreases-loop-slot : goal.decreases-loop-slot
decreases-loop-slot l = 64 - (length l.stack.items + 2 * (20 - l.first))
