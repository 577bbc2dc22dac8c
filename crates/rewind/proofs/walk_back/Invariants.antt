-- What is left of the walk decides.
use Rattle.std.specs.Slice.Iter.{iter_rest}
use Rattle.std.specs.Iterator.Adapters.{rev_source}
use Rattle.window.specs.Keys.{keys_of}
use Rattle.replay.specs.Machine.{rules_of}
use Rattle.rewind.specs.Code.{Walking}
use Rattle.rewind.proofs.walk_back.Given as goal

abbrev pub invariant-loop-code : goal.invariant-loop-code
invariant-loop-code l = Walking (rules_of l.rules) l.steps l.initial.at.left.now (keys_of l.initial.at.state) l.at (iter_rest (rev_source l.code-iterator))
