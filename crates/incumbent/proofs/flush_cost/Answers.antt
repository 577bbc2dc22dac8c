-- The pops, then the keys that are made.
use Rattle.std.specs.Prelude.{ℕ, ◌≡◌, ◌-◌, Some, length, take}
use Rattle.std.proofs.Common.{rules, ap₂, ◌∙◌, arith, length-take-le}
use Rattle.costs.specs.declared.Cost.{Cost}
use Rattle.costs.specs.declared.Step.TheVariants.{Pop, PushImm}
use Rattle.costs.specs.Cost.{none}
use Rattle.incumbent.specs.Flush.{common_suffix, flush_cost, with_pops}
use Rattle.incumbent.specs.Laws.{suffix_is, fold_pops, fold_keys}
use Rattle.incumbent.proofs.flush_cost.Goals as goal

pub returns : goal.returns
unfolding flush_cost
returns c =
    let a = c.args in
    let n = length a.start.now - c.common_suffix-same.result in
    let popped = take n a.start.now in
    let made = take (length a.goal.now - c.common_suffix-same.result) a.goal.now in
    let same : c.common_suffix-same.result ≡ common_suffix a.start.now a.goal.now = c.common_suffix-same.ensures ∙ suffix_is a.start.now a.goal.now in
    let few : length popped ≡ n = length-take-le n a.start.now (omega arith) in
    let pops : c.sum_of_prices-pops.result ≡ with_pops a.prices.now n none =
    c.sum_of_prices-pops.ensures (λ _. Some Pop) (λ x r k. search rules)
    ∙ fold_pops a.prices.now c.zero.result popped
    ∙ ap₂ (λ (m : ℕ) (sum : Cost). with_pops a.prices.now m sum) few c.zero.ensures in
    c.sum_of_prices.ensures (λ k. Some (PushImm k)) (λ x r k. search rules)
    ∙ fold_keys a.prices.now c.sum_of_prices-pops.result made
    ∙ cc (pops, same)
