-- The popped keys so far are written, and the steps left pop the others.
use Rattle.window.specs.Keys.{keys_of}
use Rattle.replay.specs.Machine.{rules_of, popped_on}
use Rattle.replay.specs.Writing.{Popping}
use Rattle.replay.proofs.rules.Rules.write_popped.Given as goal

abbrev pub invariant-loop-code : goal.invariant-loop-code
invariant-loop-code l =
    Popping (rules_of l.self) l.steps (popped_on (rules_of l.self) l.steps (keys_of l.initial.state)) l.initial.popped l.popped l.state l.code-index l.n
