use Rattle.std.proofs.Common.{◌∙◌, sym, append-nil}
use Rattle.successors.specs.Parts.{up_to}
use Rattle.successors.specs.Listed.{loop_added, loop_room}
use Rattle.successors.proofs.put_each.Goals as goal

pub loop-i-init : goal.loop-i-init
unfolding up_to
loop-i-init g c = sym (append-nil _)

pub put-requires : goal.put-requires
put-requires g c =
    let l = c.loop-i in
    let e = (c.requires.1.0 l.i c.loop-i-test.true).1 c.offered.result c.offered.ensures in
    rw (e, l.invariant) (loop_room _ g.f l.i _ c.loop-i-test.true c.requires.1.1)

pub loop-i-preserved : goal.loop-i-preserved
loop-i-preserved g c =
    let l = c.loop-i in
    let e = (c.requires.1.0 l.i c.loop-i-test.true).1 c.offered.result c.offered.ensures in
    c.put.ensures ∙ rw (e, l.invariant) (loop_added _ g.f l.i)
