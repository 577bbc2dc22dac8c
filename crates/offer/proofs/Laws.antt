-- The small functions: costs, the plan in hand, cheaper.
use Rattle.std.proofs.Common.{◌≡◌, refl, not, Option, None, Some, [], ℕ, arith, ltb}
use Rattle.std.proofs.lemmas.Bool.Decides.{nat_tests}
use Rattle.costs.specs.declared.Cost.{Cost}
use Rattle.costs.specs.Packed.{cost_of}
use Rattle.algebra.specs.GasBytes.{gas_bytes}
use Rattle.astar.specs.Search.{Succ, Work, Hand, find, better, offer}
use Rattle.lists.specs.View.{SearchNode}
use Rattle.lists.proofs.Queue.{cost_le}
use Rattle.offer.specs.Rules.{Rules, coded, estimated}

pub cost_lt : (a b : ℕ) → not (gas_bytes.le (cost_of b) (cost_of a)) ≡ ltb a b
cost_lt a b = rw (cost_le b a) (grind (arith, nat_tests))

-- ---- what of the problem matters

-- whether a cost is better does not look at the problem
pub better_any : (R R' : Rules) (a b a' b' : ℕ) (g : Cost) (o : Option SearchNode) → better gas_bytes (coded R a b) g o ≡ better gas_bytes (coded R' a' b') g o
unfolding better
better_any R R' a b a' b' g None = refl
better_any R R' a b a' b' g (Some n) = refl

-- offering a successor looks at the estimate of its state only
pub offer_any : (R : Rules) (a b : ℕ) (H : Hand Cost) (p : ℕ) (g : Cost) (x : Succ Cost ℕ) (w : Work Cost ℕ) → offer gas_bytes (coded R a b) H p g x w ≡ offer gas_bytes (estimated (R.est x.to)) H p g x w
unfolding offer
offer_any R a b H p g x w = rw (better_any R (record { est = λ v. R.est x.to; after = λ v q. [] }) a b 0 0 (gas_bytes.◌⊞◌ g x.price) (find x.to w.nodes))
