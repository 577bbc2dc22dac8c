use Rattle.std.specs.Prelude.{get_or}
use Rattle.successors.specs.Successors.{zero_at}
use Rattle.successors.proofs.Asked.put_zeros.Given as goal

abbrev pub ghost-put_each : goal.ghost-put_each
ghost-put_each a = let q = a.offered.0.now in λ i. zero_at q.kinds.now (get_or q.keys.now i 0)
