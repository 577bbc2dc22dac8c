use Rattle.std.proofs.Common.{refl, ◌∙◌}
use Rattle.successors.specs.Successors.{price_by}
use Rattle.moves.proofs.Expansion.to.Goals as goal

pub returns : goal.returns
unfolding price_by
returns c = record { state_is = refl; price = c.from.ensures ∙ c.price_of-price.ensures; est = c.from-2.ensures; by = refl }
