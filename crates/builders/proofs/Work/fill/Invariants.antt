-- The keys that are left decide.
use Rattle.std.specs.Prelude.{◌-◌}
use Rattle.replay.specs.Machine.{rules_of}
use Rattle.builders.specs.FillCode.{next_of, Going}
use Rattle.builders.proofs.Work.fill.Given as goal

abbrev pub invariant-loop-next : goal.invariant-loop-next
invariant-loop-next l = Going (rules_of l.rules) l.goal l.initial.self l.self l.next

abbrev pub decreases-loop-next : goal.decreases-loop-next
decreases-loop-next l = 64 - next_of l.next
