-- Equal arrays of counts are equal counts.
use Rattle.star_swap.specs.Check.{equal_counts}
use Rattle.star_swap.proofs.same_counts.Goals as goal

pub returns : goal.returns
returns c = equal_counts _ _ _ _ c.count_into.ensures c.count_into-2.ensures _ c.eq.ensures
