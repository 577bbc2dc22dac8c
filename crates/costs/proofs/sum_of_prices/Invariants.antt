-- The sum so far and the entries that are left decide.
use Rattle.std.proofs.Common.{◌≡◌, Option, drop}
use Rattle.std.specs.Fn.{FnReturnsAt}
use Rattle.std.specs.List.{fold}
use Rattle.costs.specs.declared.Step.{Step}
use Rattle.costs.specs.Sum.{Gives, add_price}
use Rattle.costs.proofs.sum_of_prices.Given as goal

abbrev pub invariant-loop-entry : goal.invariant-loop-entry
invariant-loop-entry g l =
    (f : _ → Option Step) → Gives (FnReturnsAt g.F.Fn l.step) f → fold (add_price l.prices f) l.fn.from l.list ≡ fold (add_price l.prices f) l.sum (drop l.entry-index l.list)
