-- The copies that are left decide.
use Rattle.replay.specs.Machine.{rules_of}
use Rattle.builders.specs.FillCode.{Adding}
use Rattle.builders.proofs.Work.add_times.Given as goal

abbrev pub invariant-loop : goal.invariant-loop
invariant-loop l = Adding (rules_of l.rules) l.key l.n l.initial.self l.self l.counter
