-- A copy from the highest place, or the key made.
use Rattle.std.proofs.Common.{arith}
use Rattle.replay.specs.Machine.{rules_of}
use Rattle.builders.specs.TrimCode.{found_is}
use Rattle.builders.specs.FillCode.{made_ready, add_full, add_made, add_copy}
use Rattle.builders.proofs.Work.add_key.Goals as goal

pub returns-then-rules-len-clause-added : goal.returns-then-rules-len-clause-added
returns-then-rules-len-clause-added c = add_full _ _ _ (omega (arith, c.len.ensures))

pub copy_at-requires : goal.copy_at-requires
copy_at-requires c = (c.requires.0, (found_is _ _ _ c.in-Some.ensures).1, omega (arith, c.len.ensures))

pub returns-in-Some-clause-added : goal.returns-in-Some-clause-added
returns-in-Some-clause-added c = add_copy _ _ _ (omega (arith, c.len.ensures)) _ _ c.in-Some.ensures c.copy_at.ensures.copied

pub act-requires : goal.act-requires
act-requires c =
    let r = c.requires.0.few in
    (rw c.made_step.ensures (made_ready _ _ _ c.requires.1 (omega (arith, c.len.ensures))), omega (arith, c.len.ensures))

pub returns-in-None-clause-added : goal.returns-in-None-clause-added
returns-in-None-clause-added c = (add_made _ _ _ (omega (arith, c.len.ensures)) _ c.requires.0 c.in-None.ensures (rw c.made_step.ensures at c.act.ensures)).0

pub returns-in-None-clause-room : goal.returns-in-None-clause-room
returns-in-None-clause-room c = (add_made (rules_of c.args.rules) _ _ (omega (arith, c.len.ensures)) _ c.requires.0 c.in-None.ensures (rw c.made_step.ensures at c.act.ensures)).1
