-- The sum over the codes, from nothing.
use Rattle.std.proofs.Common.{rules, ap, ◌∙◌}
use Rattle.costs.specs.declared.Cost.{Cost}
use Rattle.costs.specs.Price.{cost_from}
use Rattle.costs.specs.Step.{decoded}
use Rattle.costs.specs.Sum.{fold_codes}
use Rattle.costs.proofs.cost_for_steps.Goals as goal

pub returns : goal.returns
returns c =
    c.sum_of_prices.ensures decoded (λ x r k. search rules)
    ∙ fold_codes c.args.prices.now c.zero.result c.args.steps.now
    ∙ ap (λ (sum : Cost). cost_from c.args.prices.now sum c.args.steps.now) c.zero.ensures
