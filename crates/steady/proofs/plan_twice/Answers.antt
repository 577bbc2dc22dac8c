-- The claim about two answers, from what the planner ensures of each.
use Rattle.replay.specs.Machine.{plain_rules, above}
use Rattle.planner.specs.Refusal.{asked, allowances}
use Rattle.planner.proofs.Demand.{demand_3_called}
use Rattle.steady.proofs.plan_twice.Goals as goal

pub returns : goal.returns
returns c e w v h k =
    let a = c.args in
    let p = c.plan-first in
    let q = c.plan-second in
    demand_3_called
    (asked (above a.beneath (plain_rules a.dup_max a.swap_max a.max_len a.kinds.now)) a.prices.now a.start.now a.goal.now (allowances 0 0 0))
    (allowances a.low.max_expansions a.low.states_without a.low.states_with)
    (allowances a.high.max_expansions a.high.states_without a.high.states_with)
    _
    _
    a.low_steps.now
    a.high_steps.now
    p.result
    q.result
    _
    _
    p.ensures.steps_after
    q.ensures.steps_after
    (record { more_expansions = e; more_without = w; more_with = v })
    h
    k
