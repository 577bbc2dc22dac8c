-- The keys that are left to bury decide.
use Rattle.builders.specs.Work.{Burying}
use Rattle.builders.proofs.Work.bury_keys.Given as goal

abbrev pub invariant-loop-i : goal.invariant-loop-i
invariant-loop-i l = Burying l.n l.initial.self l.self l.i
