use Rattle.std.specs.Prelude.{◌≡◌, ◌-◌, length, take}
use Rattle.std.proofs.Common.{arith, length-take}
use Rattle.successors.specs.Places.{placed_begin, placed_none, placed_on}
use Rattle.successors.proofs.Reached.new.Goals as goal

pub loop-i-init : goal.loop-i-init
loop-i-init c =
    let n = c.min-reach.result in
    let e : n ≡ length (take n c.args.w.now) = omega (arith, length-take n c.args.w.now) in
    placed_begin _ (take n c.args.w.now) n e (placed_none n)

pub loop-i-preserved : goal.loop-i-preserved
loop-i-preserved c =
    let l = c.loop-i in
    let n = c.min-reach.result in
    placed_on l.first c.args.w.now n l.i (omega arith) c.loop-i-test.true l.auto.i (c.requires.fit (l.i - 1) (omega arith)) l.invariant
