-- What each step asks of the window, and the window after it, by the step that each arm is given.
use Rattle.std.proofs.Common.{arith, inl, inr, length-drop, length-set}
use Prim.Native.Nat.{ℕ, ◌≤◌}
use Rattle.std.proofs.Math.Path.{◌≡◌, ◌∙◌}
use Rattle.std.specs.Prelude.{List, length}
use Rattle.window.specs.declared.PackedState.{PackedState}
use Rattle.window.specs.State.{Held}
use Rattle.window.specs.Keys.{keys_of, Window, keys_length, held_keys, held_window, held_first}
use Rattle.replay.specs.Machine.{after}
use Rattle.replay.specs.Laws.{at_step}
use Rattle.replay.proofs.moved.Goals as goal

-- the window that a state holds is the window after the step
settled : (r : PackedState) (v w : List ℕ) → Held 6 r v → length v ≤ 21 → v ≡ w → Window r × (keys_of r ≡ w)
settled r v w h l e = (held_window r v h l, held_keys r v h l ∙ e)

pub pop-requires : goal.pop-requires
pop-requires c =
    (_, (_, held_first _ _ c.requires.0 (at_step _ _ _ c.in-Pop.is c.requires.1)))

pub returns-in-Pop : goal.returns-in-Pop
unfolding after
returns-in-Pop c =
    let w = keys_of c.args.state in
    let e = c.in-Pop.is in
    settled _ _ _ (c.pop.ensures _ _ (held_first _ _ c.requires.0 (at_step _ _ _ e c.requires.1))) (omega (arith, length-drop 1 w, keys_length c.args.state)) (rw e)

pub returns-in-Dup : goal.returns-in-Dup
unfolding after
returns-in-Dup c =
    let e = c.in-Dup.is in
    let h = at_step _ _ _ e c.requires.1 in
    settled _ _ _ (c.dup.ensures _ c.requires.0 h.0) (omega (arith, h.1)) (rw e)

pub returns-in-Swap : goal.returns-in-Swap
unfolding after
returns-in-Swap c =
    let e = c.in-Swap.is in
    settled _ _ _ (c.swap.ensures _ c.requires.0 (at_step _ _ _ e c.requires.1)) (simp length-set (keys_length c.args.state)) (rw e)

pub returns-in-PushImm : goal.returns-in-PushImm
unfolding after
returns-in-PushImm c = elim c.in-PushImm.is [
  | inl e ↦
      let h = at_step _ _ _ e c.requires.1 in
      settled _ _ _ (c.push.ensures _ c.requires.0) (omega (arith, h.1)) (rw e)
  | inr e ↦
      let h = at_step _ _ _ e c.requires.1 in
      settled _ _ _ (c.push.ensures _ c.requires.0) (omega (arith, h.1)) (rw e)
]
