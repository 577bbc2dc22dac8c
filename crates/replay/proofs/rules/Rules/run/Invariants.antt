-- What is left to replay on the window so far decides.
use Rattle.std.specs.Prelude.{◌≡◌, drop}
use Rattle.replay.specs.Machine.{rules_of, ran_on}
use Rattle.window.specs.Keys.{keys_of, Window}
use Rattle.replay.proofs.rules.Rules.run.Given as goal

abbrev pub invariant-loop-i : goal.invariant-loop-i
invariant-loop-i l = Window l.state × (ran_on (rules_of l.self) 0 l.steps (keys_of l.initial.state) ≡ ran_on (rules_of l.self) l.i (drop l.i l.steps) (keys_of l.state))
