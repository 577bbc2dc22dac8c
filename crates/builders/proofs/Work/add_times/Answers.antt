-- The copies that are left decide.
use Rattle.builders.specs.FillCode.{adding_next, adding_none, adding_last}
use Rattle.builders.proofs.Work.add_times.Goals as goal

pub returns-in_err-add_key-clause-added : goal.returns-in_err-add_key-clause-added
returns-in_err-add_key-clause-added c =
    rw c.from_residual.ensures (adding_none _ _ _ _ _ _ c.loop.invariant c.loop-test.true c.in_err-add_key.ensures.added)

pub loop-preserved : goal.loop-preserved
loop-preserved c = adding_next _ _ _ _ _ _ c.loop.invariant _ c.loop-test.true c.in_ok-add_key.ensures.added c.in_ok-add_key.ensures.room

pub returns-clause-added : goal.returns-clause-added
returns-clause-added c = adding_last _ _ _ _ _ _ c.loop.invariant c.loop-test.false
