-- Kept keys are buried, the others popped, and star-swap puts the kept ones in order.
use Rattle.std.specs.Prelude.{ℕ, List, refl}
use Rattle.std.proofs.Common.{subst}
use Rattle.builders.specs.Draft.{Over}
use Rattle.builders.specs.TailCode.{tail_pops, tail_routes, tail_wrote}
use Rattle.builders.proofs.tail.Goals as goal

pub pop_keys-requires : goal.pop_keys-requires
pop_keys-requires c = tail_pops _ _ c.requires.1 _ _ c.min-bury.ensures refl _ (rw c.begin-work.ensures at c.bury_keys.ensures)

pub route-requires : goal.route-requires
route-requires c = tail_routes _ _ c.requires.1 _ _ c.min-bury.ensures refl _ (rw c.begin-work.ensures at c.bury_keys.ensures) _ c.pop_keys.ensures

pub returns-clause-given : goal.returns-clause-given
returns-clause-given c =
    subst (λ (plan : List ℕ). Over plan c.give.result c.args.steps.now c.give.new.steps)
    (tail_wrote _ _ c.requires.1 _ _ c.min-bury.ensures refl _ (rw c.begin-work.ensures at c.bury_keys.ensures) _ c.pop_keys.ensures _ c.route.ensures)
    c.give.ensures.given
