use Rattle.std.specs.Prelude.{get_or}
use Rattle.successors.specs.Successors.{dup_at, other_at, load_at}
use Rattle.successors.proofs.Asked.put_rest.Given as goal

abbrev pub ghost-put_each : goal.ghost-put_each
ghost-put_each a = let q = a.offered.0.now in let n = a.offered.1.now in λ p. dup_at q.kinds.now q.goal.now n.w.now p

abbrev pub ghost-put_each-2 : goal.ghost-put_each-2
ghost-put_each-2 a = let q = a.offered.0.now in let n = a.offered.1.now in λ i. other_at q.kinds.now q.prices.now n.w.now n.reach (get_or a.offered.2.now i 0)

abbrev pub ghost-put_each-3 : goal.ghost-put_each-3
ghost-put_each-3 a = let q = a.offered.0.now in let n = a.offered.1.now in λ i. load_at q.kinds.now n.w.now n.reach (get_or a.offered.2.now i 0)
