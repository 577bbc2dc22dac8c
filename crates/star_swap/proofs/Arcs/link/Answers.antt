-- From the last slot up, each misplaced slot goes in front of its list.
use Rattle.std.specs.Prelude.{◌≡◌, ◌-◌}
use Rattle.std.proofs.Common.{arith, rules}
use Rattle.star_swap.specs.Star.{at}
use Rattle.star_swap.specs.Chain.{byte_at}
use Rattle.star_swap.specs.StarCode.{linked_begin, linked_right, linked_wrong}
use Rattle.star_swap.proofs.Arcs.link.Goals as goal

pub loop-slot-init : goal.loop-slot-init
loop-slot-init c = (rw c.requires.empty (linked_begin _ _), c.requires.pair.1)

pub loop-slot-preserved-then-cur-slot : goal.loop-slot-preserved-then-cur-slot
loop-slot-preserved-then-cur-slot c =
    let need = at c.args.goal.now (c.loop-slot.slot - 1) in
    let e = byte_at c.loop-slot.self.head need (search rules) in
    (rw (← e) (linked_wrong _ _ c.requires.pair.0 _ _ c.loop-slot.invariant.1 (omega arith) c.loop-slot.invariant.0 c.if-cur-slot.true), omega arith)

pub loop-slot-preserved : goal.loop-slot-preserved
loop-slot-preserved c = (linked_right _ _ c.requires.pair.0 _ _ c.loop-slot.invariant.1 (omega arith) c.loop-slot.invariant.0 c.if-cur-slot.false, omega arith)

pub returns : goal.returns
returns c = let e : c.loop-slot.slot ≡ 1 = omega arith in rw e at c.loop-slot.invariant.0
