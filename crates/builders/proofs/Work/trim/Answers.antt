-- The surplus keys that are left decide.
use Rattle.builders.specs.TrimCode.{trim_low, trim_far, trim_next, trim_less, trim_last}
use Rattle.builders.proofs.Work.trim.Goals as goal

pub drop_at-requires : goal.drop_at-requires
drop_at-requires c = (c.loop-d.invariant.fit, trim_low _ _ _ _ c.loop-d.invariant _ c.in-Some.ensures.window c.count_into.ensures _ c.in-Some.ensures.place)

pub returns-then-beyond-clause-trimmed : goal.returns-then-beyond-clause-trimmed
returns-then-beyond-clause-trimmed c =
    trim_far _ _ _ _ c.loop-d.invariant _ c.in-Some.ensures.window c.count_into.ensures _ c.in-Some.ensures.place _ c.beyond.ensures c.if-beyond.true

pub loop-d-smaller : goal.loop-d-smaller
loop-d-smaller c = trim_less _ _ _ _ c.loop-d.invariant _ c.in-Some.ensures.window c.count_into.ensures _ c.in-Some.ensures.place _ c.drop_at.ensures

pub loop-d-preserved : goal.loop-d-preserved
loop-d-preserved c =
    trim_next _ _ _ _ c.loop-d.invariant _ c.in-Some.ensures.window c.count_into.ensures _ c.in-Some.ensures.place _ _ c.beyond.ensures c.if-beyond.false c.drop_at.ensures

pub returns-clause-trimmed : goal.returns-clause-trimmed
returns-clause-trimmed c = trim_last _ _ _ _ c.loop-d.invariant _ c.in_default.ensures.window c.count_into.ensures c.in_default.ensures.place
