use Rattle.std.specs.Prelude.{false}
use Rattle.std.proofs.Common.{eq-eqb, ◌∙◌}
use Rattle.costs.specs.Laws.{any_over_fold}
use Rattle.costs.specs.Table.{prices_fault}
use Rattle.costs.proofs.prices_fault.Goals as goal

pub returns-else-prices-ne196 : goal.returns-else-prices-ne196
unfolding prices_fault
returns-else-prices-ne196 c = rw (eq-eqb _ _ c.if-prices-ne196.false) (c.any_entry.ensures ∙ any_over_fold 30000 false c.args.prices.now)
