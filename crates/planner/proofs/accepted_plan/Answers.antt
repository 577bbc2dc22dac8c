-- The start is the goal, or the builders' plan is given, or the search's answer.
use Rattle.std.specs.Prelude.{ℕ, ◌≡◌, eqb, false, length}
use Rattle.std.proofs.Common.{ap, sym, ◌∙◌, arith, rules}
use borrow.Author.Tests.{eq-eqb, ne_eqb}
use Rattle.window.specs.Pack.{pack}
use Rattle.window.specs.Laws.{pack_inj}
use Rattle.algebra.specs.GasBytes.{gas_bytes}
use Rattle.astar.specs.Planner.{Answer as Answered, searched}
use Rattle.costs.specs.declared.Cost.{Cost}
use Rattle.problem.specs.Problem.{problem_of}
use Rattle.incumbent.specs.Hand.{Held}
use Rattle.planner.specs.Refusal.{Asked, Lent, lent}
use Rattle.planner.specs.Given.{task_asked}
use Rattle.planner.specs.Accepted.{Accepted, keys_below}
use Rattle.planner.specs.Planned.{question_of, listed, plan_held, given}
use Rattle.planner.specs.Cases.{still, at_goal_lem, no_expansion, by_search}
use Rattle.planner.specs.declared.Answer.{Answer}
use Rattle.planner.proofs.accepted_plan.Goals as goal

module _ (a : Asked) (l : Lent) (ok : Accepted a l) where
  -- windows that differ have other numbers
  apart : (a.start ≡ a.goal → ⊥) → eqb (pack 6 a.start) (pack 6 a.goal) ≡ false
  apart n = ne_eqb _ _ (λ e. n (pack_inj 6 (omega arith) a.start a.goal (keys_below a.start ok.start_keys) (keys_below a.goal ok.goal_keys) e))

pub returns-then-eq : goal.returns-then-eq
returns-then-eq c =
    let a = c.args in
    let t = a.task.now in
    let q = task_asked t a.a in
    let same : t.start.now ≡ t.goal.now = search rules in
    ap (λ (r : Answer). (r, a.steps.now)) (c.no_steps.ensures ∙ still q.rules t.start.now)
    ∙ ap (λ (r : Answered Cost ℕ). given q.rules t.start.now r a.steps.now) (sym (at_goal_lem q (eq-eqb _ _ (ap (pack 6) same))))

pub returns-then-a-eq0 : goal.returns-then-a-eq0
returns-then-a-eq0 c =
    let a = c.args in
    let t = a.task.now in
    let q = task_asked t a.a in
    let l = lent (length a.steps.now) (length a.nodes.now) (length a.heads.now) (length a.list.now) in
    let differ : t.start.now ≡ t.goal.now → ⊥ = search rules in
    c.give_held.ensures 1 0
    ∙ ap (λ (h : Held). given q.rules t.start.now (record { plan = plan_held h; ending = 1; expansions = 0 }) a.steps.now) c.in_hand-hand.ensures.held
    ∙ ap (λ (r : Answered Cost ℕ). given q.rules t.start.now r a.steps.now) (sym (no_expansion q (apart q l c.requires differ) c.if-a-eq0.true))

pub returns : goal.returns
returns c =
    let a = c.args in
    let t = a.task.now in
    let q = task_asked t a.a in
    let l = lent (length a.steps.now) (length a.nodes.now) (length a.heads.now) (length a.list.now) in
    let differ : t.start.now ≡ t.goal.now → ⊥ = search rules in
    c.with_search.ensures
    ∙ ap (λ (h : Held). given q.rules t.start.now (searched gas_bytes (problem_of (question_of q) t.start.now) (listed t.prices.now) 50 h.bound (plan_held h) q.allowance) a.steps.now) c.in_hand-hand.ensures.held
    ∙ ap (λ (r : Answered Cost ℕ). given q.rules t.start.now r a.steps.now) (sym (by_search q (apart q l c.requires differ) c.if-a-eq0.false))
