-- The steps for the numbers so far are added.
use Rattle.std.specs.Prelude.{◌≡◌, ◌++◌}
use Rattle.successors.specs.Parts.{up_to}
use Rattle.successors.proofs.put_each.Given as goal

abbrev pub invariant-loop-i : goal.invariant-loop-i
invariant-loop-i g l = l.out.items ≡ l.initial.out.items ++ up_to g.f l.i
