-- The first i keys are written, the others are held.
use Rattle.std.proofs.Common.{arith, ◌<◌}
use Rattle.std.specs.Prelude.{length}
use Rattle.window.specs.Keys.{keys_of}
use Rattle.window.specs.Written.{writing_first, some_left, some_held, writing_next, writing_last}
use Rattle.window.proofs.PackedState.write.Goals as goal

pub loop-i-init : goal.loop-i-init
loop-i-init c = writing_first _ _ _ c.requires.1 c.requires.0

pub get-requires : goal.get-requires
get-requires c =
    let n = c.len-n.ensures _ c.requires.0 in
    (_, c.loop-i.invariant.left, some_left _ _ _ _ _ c.loop-i.invariant (omega arith))

pub bounds-out-i : goal.bounds-out-i
bounds-out-i c =
    let n = c.len-n.ensures _ c.requires.0 in
    omega (arith, c.loop-i.invariant.len, c.loop-i.invariant.room)

pub pop-s-requires : goal.pop-s-requires
pop-s-requires c =
    let n = c.len-n.ensures _ c.requires.0 in
    (_, (_, some_held _ _ _ _ _ c.loop-i.invariant (omega arith)))

pub loop-i-preserved : goal.loop-i-preserved
loop-i-preserved c =
    let v = c.loop-i.invariant in
    let n = c.len-n.ensures _ c.requires.0 in
    let l : c.loop-i.i < length (keys_of c.args.self) = omega arith in
    writing_next _ _ _ _ _ v _ _ l (c.get.ensures _ v.left (some_left _ _ _ _ _ v l)) (c.pop-s.ensures _ _ (some_held _ _ _ _ _ v l))

pub returns : goal.returns
returns c =
    let n = c.len-n.ensures _ c.requires.0 in
    (n, writing_last _ _ _ _ _ c.loop-i.invariant (omega arith))
