use Rattle.std.specs.Prelude.{◌∷◌}
use Rattle.std.proofs.Common.{ap, sym, ◌∙◌}
use Rattle.replay.specs.Steps.{after_dup}
use Rattle.window.specs.Keys.{keys_of}
use Rattle.window.specs.Laws.{key_lt}
use Rattle.moves.specs.Told.{made_top, made_ready, standing_top, held_top, told_pop, told_swap}
use Rattle.moves.proofs.Expansion.follow.Goals as goal

pub push-requires : goal.push-requires
push-requires c =
    let p = c.requires.1.1.1 in
    let w = keys_of c.args.self.state in
    let d = rw c.in-Dup.is at c.requires.0 in
    let e = c.get-in-Dup.ensures w p.window d.0 in
    (rw e (key_lt 6 w _ p.window.keys), d.1, ap (λ k. k ∷ w) e ∙ sym (after_dup _ w), c.requires.1)

pub push-requires-in-PushImm : goal.push-requires-in-PushImm
push-requires-in-PushImm c =
    let d = made_ready _ _ _ c.in-PushImm.is c.requires.0 in
    rw c.in-PushImm.step-is (d.0, d.1, made_top _ _ _ c.in-PushImm.is, c.requires.1)

pub returns-in-Pop : goal.returns-in-Pop
returns-in-Pop c = λ goal dup_max p.
    let l = rw c.in-Pop.is at c.requires.0 in
    let e = c.get.ensures _ p.window l in
    rw c.in-Pop.is
    (told_pop _ _ _ _ _ _ goal dup_max p _ l e _ _ _ (c.pop.ensures _ _ (held_top _ _ _ _ _ _ goal dup_max p _ l e)) (c.after_pop-gas.ensures _ goal (standing_top _ _ _ _ _ _ goal dup_max p _ l e)) (rw c.in-Pop.is at c.to.ensures))

pub returns-in-Dup : goal.returns-in-Dup
returns-in-Dup c = rw c.in-Dup.is c.push.ensures

pub returns-in-Swap : goal.returns-in-Swap
returns-in-Swap c = λ goal dup_max p.
    let l = rw c.in-Swap.is at c.requires.0 in
    rw c.in-Swap.is (told_swap _ _ _ _ _ _ goal dup_max p _ _ _ l (c.swap.ensures _ p.window l) c.to-in-Swap.ensures)

pub returns-in-PushImm : goal.returns-in-PushImm
returns-in-PushImm c = rw c.in-PushImm.step-is at c.push-in-PushImm.ensures
