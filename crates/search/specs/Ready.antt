-- What a question promises beside what its successors rest on.
use Rattle.std.specs.Prelude.{◌≡◌, false}
use Rattle.std.proofs.Props.{props}
use Rattle.costs.specs.Table.{prices_fault}
use Rattle.heuristic.specs.Heuristic.{least_dup}
use Rattle.heuristic.specs.Counts.{Counted}
use Rattle.heuristic.specs.declared.Weights.{Weights}
use Rattle.successors.specs.declared.Asked.{Asked}

-- the weights are those of the question, and its price list is an accepted one
pub record Ready (a : Asked) (w : Weights) : Type 0 where
  pub prices_are : w.prices.now ≡ a.prices.now
  pub wanted : Counted w.want.now a.goal.now
  pub least : w.dup ≡ least_dup w.prices.now a.cfg.dup_max
  pub listed : prices_fault a.prices.now ≡ false

-- there is one proof of it
pub ready_prop : (a : Asked) (w : Weights) → IsProp (Ready a w)
ready_prop a w = Prim.hlevel props
