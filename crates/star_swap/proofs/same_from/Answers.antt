-- The slices from the place on, or from the end.
use Rattle.star_swap.specs.Check.{same_after}
use Rattle.star_swap.proofs.same_from.Goals as goal

pub returns : goal.returns
returns c = same_after _ _ _ _ _ c.requires c.min-from.ensures c.eq.ensures
