-- The keys that are left to bury decide.
use Rattle.std.proofs.Common.{◌-◌, ap, arith}
use Rattle.builders.specs.Work.{acted, bury_next, bury_last}
use Rattle.builders.proofs.Work.bury_keys.Goals as goal

pub act-requires-in-loop-i : goal.act-requires-in-loop-i
act-requires-in-loop-i c =
    let a = acted _ _ _ c.act.ensures in
    let v = c.loop-i.invariant in
    (omega (arith, a.0), omega (arith, a.1))

pub loop-i-preserved : goal.loop-i-preserved
loop-i-preserved c =
    bury_next _ _ _ _ c.loop-i.invariant _ _ _ c.loop-i-test.true c.requires.0 (ap (λ n. n - 1 - c.loop-i.i) c.len.ensures.value) c.act.ensures c.act-in-loop-i.ensures

pub returns : goal.returns
returns c = bury_last _ _ _ _ c.loop-i.invariant c.loop-i-test.false
