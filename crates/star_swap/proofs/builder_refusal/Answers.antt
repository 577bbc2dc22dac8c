-- The number of a shared row stands above the higher rows; where there is none, these decide.
use Rattle.std.proofs.Common.{◌∙◌}
use Rattle.star_swap.specs.Check.{shared_row, last_row}
use Rattle.star_swap.proofs.builder_refusal.Goals as goal

pub returns-in-Ok : goal.returns-in-Ok
returns-in-Ok c = last_row _ _ _ _ _ c.in-Ok.ensures

pub returns-in-Err : goal.returns-in-Err
returns-in-Err c = c.number.ensures ∙ shared_row _ _ _ _ _ _ c.in-Err.ensures
