-- The keys that are left decide.
use Rattle.replay.specs.Machine.{rules_of}
use Rattle.builders.specs.FillCode.{going_first, going_less, going_next, at_key, at_end, filling_none}
use Rattle.builders.proofs.Work.fill.Goals as goal

pub loop-next-init : goal.loop-next-init
loop-next-init c = going_first _ _ _ c.requires.1.keys _ c.requires.0 c.next_wanted-next.ensures

pub bounds-wanted-key : goal.bounds-wanted-key
bounds-wanted-key c = (at_key _ _ _ _ _ _ c.loop-next.invariant c.in-Some.is).0

pub add_times-requires : goal.add_times-requires
add_times-requires c =
    let k = at_key _ _ _ _ _ _ c.loop-next.invariant c.in-Some.is in
    (k.1.room, k.0)

pub returns-in_err-add_times-clause-filled : goal.returns-in_err-add_times-clause-filled
returns-in_err-add_times-clause-filled c =
    let k = at_key _ _ _ _ _ _ c.loop-next.invariant c.in-Some.is in
    rw c.from_residual.ensures (filling_none _ _ _ _ _ k.1 k.0 _ (rw (c.count_into.ensures.each _ k.0) at c.missing-n.ensures) c.in_err-add_times.ensures.added)

pub loop-next-smaller : goal.loop-next-smaller
loop-next-smaller c =
    let k = at_key _ _ _ _ _ _ c.loop-next.invariant c.in-Some.is in
    rw c.in-Some.is (going_less (rules_of c.args.rules) _ c.args.self.now c.requires.1.keys _ k.0 _ c.next_wanted-next-in-Some.ensures)

pub loop-next-preserved : goal.loop-next-preserved
loop-next-preserved c =
    let k = at_key _ _ _ _ _ _ c.loop-next.invariant c.in-Some.is in
    going_next _ _ _ c.requires.1.keys _ _ k.1 k.0 _ (rw (c.count_into.ensures.each _ k.0) at c.missing-n.ensures) _ c.in_ok-add_times.ensures.added c.in_ok-add_times.ensures.room _ c.next_wanted-next-in-Some.ensures

pub returns-clause-filled : goal.returns-clause-filled
returns-clause-filled c = at_end _ _ _ _ _ c.loop-next.invariant c.in_default.is
