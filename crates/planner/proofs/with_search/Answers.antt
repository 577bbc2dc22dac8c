-- The search's plan, or the builders' where it has none.
use Rattle.std.specs.Prelude.{◌≡◌, refl, List, ℕ, None, length}
use Rattle.std.specs.Option.{is_some}
use Rattle.std.proofs.Common.{ap, ◌∙◌, arith}
use Rattle.costs.specs.declared.Cost.{Cost}
use Rattle.replay.specs.Machine.{rules_of}
use Rattle.astar.specs.Planner.{Answer as Answered}
use Rattle.astar.specs.Search.{number}
use Rattle.incumbent.specs.Hand.{held_of}
use Rattle.planner.specs.Refusal.{lent}
use Rattle.planner.specs.Given.{task_asked}
use Rattle.planner.specs.Accepted.{search_question, search_start, search_room}
use Rattle.planner.specs.Planned.{plan_held, given}
use Rattle.run.specs.Ending.{ended_by}
use Rattle.solve.specs.View.{steps_in}
use Rattle.planner.specs.Cases.{searched_found, searched_lost, unwritten}
use Rattle.planner.proofs.with_search.Goals as goal

pub search_from-came-requires : goal.search_from-came-requires
search_from-came-requires c =
    let a = c.args in
    let t = a.task.now in
    let q = task_asked t a.a in
    let l = lent (length a.steps.now) (length a.nodes.now) (length a.heads.now) (length a.list.now) in
    record {
      heads_nonzero = omega (arith, c.requires.heads);
      roomy = search_room q a.a a.nodes.now a.list.now l refl refl refl c.requires;
      accepted = search_question q t.rules.cfg t.rules.kinds.now refl l c.requires;
      start_fits = search_start q t.rules.cfg t.rules.kinds.now refl l c.requires;
      most_in_bounds = omega (arith, c.requires.steps);
      most_bound = c.requires.expansions;
    }

pub slice_bounds-highest-end : goal.slice_bounds-highest-end
slice_bounds-highest-end c = omega (arith, c.search_from-came.ensures.fits, ap steps_in c.in-Some.is)

pub returns-in-Some : goal.returns-in-Some
returns-in-Some c =
    let a = c.args in
    let t = a.task.now in
    let have : c.is_some.result ≡ is_some a.hand.plan = search in
    searched_found _ t.start.now a.a a.hand a.held.now _ _ c.search_from-came.result a.steps.now c.search_from-came.new.steps c.search_from-came.ensures c.from.ensures have c.in-Some.plan c.in-Some.is c.highest.result c.highest.ensures

pub give_held-plan-requires : goal.give_held-plan-requires
give_held-plan-requires c =
    let a = c.args in
    let t = a.task.now in
    let have : c.is_some.result ≡ is_some a.hand.plan = search in
    let none : c.search_from-came.result.plan ≡ None = search in
    let k = ap length (unwritten _ t.start.now a.a a.hand a.held.now _ _ c.search_from-came.result a.steps.now c.search_from-came.new.steps c.search_from-came.ensures c.from.ensures have none) in
    omega (arith, k, c.requires.steps)

pub returns-in-None : goal.returns-in-None
returns-in-None c =
    let a = c.args in
    let t = a.task.now in
    let r = c.search_from-came.result in
    let have : c.is_some.result ≡ is_some a.hand.plan = search in
    let none : c.search_from-came.result.plan ≡ None = search in
    c.give_held-plan.ensures (number (ended_by r.ending)) r.expansions
    ∙ ap (λ (z : List ℕ). given (rules_of t.rules) t.start.now (record { plan = plan_held (held_of a.hand a.held.now); ending = number (ended_by r.ending); expansions = r.expansions }) z)
    (unwritten _ t.start.now a.a a.hand a.held.now _ _ r a.steps.now c.search_from-came.new.steps c.search_from-came.ensures c.from.ensures have none)
    ∙ ap (λ (x : Answered Cost ℕ). given (rules_of t.rules) t.start.now x a.steps.now)
    (searched_lost _ t.start.now a.a a.hand a.held.now _ _ r a.steps.now c.search_from-came.new.steps c.search_from-came.ensures c.from.ensures have none)
