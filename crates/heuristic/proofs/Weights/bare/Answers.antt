use Rattle.std.proofs.Common.{arith}
use Rattle.heuristic.specs.Bare.{over_on, over_end}
use Rattle.heuristic.specs.Weighed.{bare_of}
use Rattle.heuristic.proofs.Weights.bare.Goals as goal

pub loop-key-preserved : goal.loop-key-preserved
loop-key-preserved c =
    let l = c.loop-key in
    (omega arith, rw (c.saturating_add-sum.ensures, c.count_term.ensures) (over_on (bare_of c.args.self) c.args.keys.now l.key-index l.sum c.loop-key-test.true l.invariant.1))

pub returns : goal.returns
returns c =
    let l = c.loop-key in
    over_end (bare_of c.args.self) c.args.keys.now l.key-index l.sum c.loop-key-test.false l.invariant.0 l.invariant.1
