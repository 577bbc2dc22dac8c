-- A refusal by the table, with every list as it was; else the accepted planning.
use Rattle.std.specs.Prelude.{◌≡◌, Err, length}
use Rattle.std.proofs.Common.{ap, sym, ◌∙◌, arith, subst}
use Rattle.std.proofs.lemmas.Grind.{common_steps}
use Rattle.costs.specs.Laws.{kinds_length}
use Rattle.costs.specs.Refusal.{number_of, never_zero}
use Rattle.replay.specs.Machine.{Rules}
use Rattle.replay.specs.Rows.{given_by}
use Rattle.planner.specs.Refusal.{asked, allowances, lent, ruled_by, narrow}
use Rattle.planner.specs.Accepted.{Accepted, accepted, start_window, goal_window}
use Rattle.planner.specs.Planned.{answered, given}
use Rattle.planner.specs.Cases.{when_refused, when_accepted}
use Rattle.planner.proofs.try_plan.Goals as goal

pub returns-in_err-check-clause-steps_after : goal.returns-in_err-check-clause-steps_after
returns-in_err-check-clause-steps_after c =
    let a = c.args in
    let q = asked (given_by a.given) a.prices.now a.start.now a.goal.now (allowances a.a.max_expansions a.a.states_without a.a.states_with) in
    let l = lent (length a.steps.now) (length a.nodes.now) (length a.heads.now) (length a.list.now) in
    let k : c.from_residual.result ≡ Err c.in_err-check.field-0.0 = grind (arith, common_steps) in
    rw k (sym (when_refused q l a.steps.now (number_of c.in_err-check.field-0.0) c.in_err-check.ensures (never_zero c.in_err-check.field-0.0)))

-- what an accepted planning may rest on
pub accepted_plan-requires : goal.accepted_plan-requires
accepted_plan-requires c =
    let a = c.args in
    let q = asked (given_by a.given) a.prices.now a.start.now a.goal.now (allowances a.a.max_expansions a.a.states_without a.a.states_with) in
    let l = lent (length a.steps.now) (length a.nodes.now) (length a.heads.now) (length a.list.now) in
    subst (λ (r : Rules). Accepted (ruled_by r q) l) (sym c.narrowed.ensures) (accepted q l (sym c.in_ok-check.ensures))

pub narrowed-requires : goal.narrowed-requires
narrowed-requires c =
    let a = c.args in
    let q = asked (given_by a.given) a.prices.now a.start.now a.goal.now (allowances a.a.max_expansions a.a.states_without a.a.states_with) in
    let l = lent (length a.steps.now) (length a.nodes.now) (length a.heads.now) (length a.list.now) in
    let ok = accepted q l (sym c.in_ok-check.ensures) in
    (ok.window, kinds_length a.given.kinds.now ok.kinds)

pub invariant_of-task : goal.invariant_of-task
invariant_of-task c =
    let a = c.args in
    let q = asked (given_by a.given) a.prices.now a.start.now a.goal.now (allowances a.a.max_expansions a.a.states_without a.a.states_with) in
    let l = lent (length a.steps.now) (length a.nodes.now) (length a.heads.now) (length a.list.now) in
    let ok = accepted q l (sym c.in_ok-check.ensures) in
    let s = start_window (narrow q) l ok in
    let g = goal_window (narrow q) l ok in
    record { start_short = s.short; start_keys = s.keys; goal_short = g.short; goal_keys = g.keys }

pub returns-clause-steps_after : goal.returns-clause-steps_after
returns-clause-steps_after c =
    let a = c.args in
    let q = asked (given_by a.given) a.prices.now a.start.now a.goal.now (allowances a.a.max_expansions a.a.states_without a.a.states_with) in
    let l = lent (length a.steps.now) (length a.nodes.now) (length a.heads.now) (length a.list.now) in
    c.accepted_plan.ensures
    ∙ ap (λ (r : Rules). given r a.start.now (answered (ruled_by r q)) a.steps.now) c.narrowed.ensures
    ∙ sym (when_accepted q l a.steps.now (sym c.in_ok-check.ensures))
