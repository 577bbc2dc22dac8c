-- The flush cost without a plan, then the two offers.
use Rattle.std.specs.Prelude.{[]}
use Rattle.std.proofs.Common.{ap, ap₂, ◌∙◌}
use Rattle.costs.specs.declared.Cost.{Cost}
use Rattle.incumbent.specs.Hand.{Held, offered, in_hand}
use Rattle.incumbent.proofs.best.Goals as goal

pub returns : goal.returns
unfolding in_hand
returns c =
    let flush : Cost → Held = λ bound. record { bound = bound; origin = 0; plan = [] } in
    c.offer.ensures
    ∙ ap₂ (offered c.args.task.now.prices.now 2) c.dup_and_star-dup.ensures.plan
    (c.offer-hand.ensures ∙ ap₂ (offered c.args.task.now.prices.now 1) c.tail_plan-tail.ensures.plan (ap flush c.flush_cost.ensures))
