-- The keys that are left to pop decide.
use Rattle.builders.specs.Work.{pop_next, pop_last}
use Rattle.builders.proofs.Work.pop_keys.Goals as goal

pub loop-preserved : goal.loop-preserved
loop-preserved c = pop_next _ _ _ _ c.loop.invariant _ c.loop-test.true c.requires.0 c.act.ensures

pub returns : goal.returns
returns c = pop_last _ _ _ _ c.loop.invariant c.loop-test.false
