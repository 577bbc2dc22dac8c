-- The surplus keys that are left decide.
use Rattle.std.specs.Prelude.{length}
use Rattle.builders.specs.TrimCode.{Trimming}
use Rattle.builders.proofs.Work.trim.Given as goal

abbrev pub invariant-loop-d : goal.invariant-loop-d
invariant-loop-d l = Trimming l.goal l.swap_max l.initial.self l.self

abbrev pub decreases-loop-d : goal.decreases-loop-d
decreases-loop-d l = length l.self.window
