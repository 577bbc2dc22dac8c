-- The keys that are left to pop decide.
use Rattle.builders.specs.Work.{Popping}
use Rattle.builders.proofs.Work.pop_keys.Given as goal

abbrev pub invariant-loop : goal.invariant-loop
invariant-loop l = Popping l.n l.initial.self l.self l.counter
