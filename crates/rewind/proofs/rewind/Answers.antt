-- The answer of the inner call, whatever it stands for.
use Rattle.rewind.specs.Back.{both}
use Rattle.rewind.proofs.rewind.Goals as goal

pub returns-clause-stepped_back : goal.returns-clause-stepped_back
returns-clause-stepped_back c = rw c.from.ensures (both _ _ _ _ _ _ c.try_rewind.ensures).1
