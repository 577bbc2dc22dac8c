-- By Dup, or by Swap and Dup.
use Rattle.std.proofs.Common.{arith}
use Rattle.builders.specs.Work.{acted}
use Rattle.builders.specs.FillCode.{copy_dup, copy_none, copy_up}
use Rattle.builders.proofs.Work.copy_at.Goals as goal

pub returns-then-d-dup_max-clause-copied : goal.returns-then-d-dup_max-clause-copied
returns-then-d-dup_max-clause-copied c = (copy_dup _ _ _ _ c.requires.0 _ c.if-d-dup_max.true c.act.ensures).0

pub returns-then-d-dup_max-clause-room : goal.returns-then-d-dup_max-clause-room
returns-then-d-dup_max-clause-room c = (copy_dup _ c.args.swap_max _ _ c.requires.0 _ c.if-d-dup_max.true c.act.ensures).1

pub returns-then-dup_max-eq0-clause-copied : goal.returns-then-dup_max-eq0-clause-copied
returns-then-dup_max-eq0-clause-copied c = copy_none _ _ _ _ c.requires.0 c.if-d-dup_max.false c.then-dup_max-eq0.either

pub act-requires-3 : goal.act-requires-3
act-requires-3 c =
    let a = acted _ _ _ c.act-2.ensures in
    let r = c.requires.0.few in
    ((omega (arith, a.0), omega (arith, a.0)), omega (arith, a.1))

pub returns-clause-copied : goal.returns-clause-copied
returns-clause-copied c = (copy_up _ _ _ _ c.requires.0 _ _ c.if-d-dup_max.false c.if-dup_max-eq0.false c.if-swap_max-d.false c.act-2.ensures c.act-3.ensures).0

pub returns-clause-room : goal.returns-clause-room
returns-clause-room c = (copy_up _ _ _ _ c.requires.0 _ _ c.if-d-dup_max.false c.if-dup_max-eq0.false c.if-swap_max-d.false c.act-2.ensures c.act-3.ensures).1
