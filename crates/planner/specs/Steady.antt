-- Demand 3: what two answers to one question have to do with each other, of their fields and step lists as callers hold them.
use Rattle.std.specs.Prelude.{ℕ, Bool, true, false, List, [], ◌≡◌, refl, T, eqb, length, take, drop}
use Rattle.std.proofs.Common.{sym, ◌∙◌, subst, arith, take_at}
use Rattle.std.specs.Prelude.{Option, None, Some}
use Rattle.astar.specs.Maybe.{some_injective}
use Rattle.costs.specs.Choice.{◌if◌otherwise◌}
use Rattle.costs.specs.Cost.{no_more}
use Rattle.costs.specs.declared.Cost.{Cost}
use Rattle.replay.specs.Machine.{Rules}
use Rattle.algebra.specs.GasBytes.{gas_bytes, le_is, domain_fits}
use Rattle.astar.specs.Search.{Allowance}
use Rattle.astar.specs.Again.{◌⊑◌}
use Rattle.astar.specs.Tests.{T_true}
use Rattle.astar.specs.Planner.{Found, Answer as Answered}
use Rattle.astar.specs.Steady.{Settled, Steady}
use Rattle.astar.proofs.Steady.{steady}
use Rattle.problem.specs.Problem.{problem_of, bounded}
use Rattle.problem.specs.Replays.{price_listed}
use Rattle.incumbent.specs.Hand.{Held}
use Rattle.planner.specs.Refusal.{Asked, Lent}
use Rattle.planner.specs.Planned.{question_of, listed, plan_held, before, answered, fields_of, steps_with}
use Rattle.planner.specs.Accepted.{Accepted, bounds}
use Rattle.planner.specs.declared.Answer.{Answer}

-- the same question with other allowances
abbrev pub allowing : Asked → Allowance → Asked
allowing a A = record { rules = a.rules; prices = a.prices; start = a.start; goal = a.goal; allowance = A }

abbrev pub plan_cost : Answer → Cost
plan_cost r = record { gas = r.plan_gas; bytes = r.plan_bytes }

-- the pass mark is the ceiling of a planning that gives a plan
abbrev pub pass_mark : Answer → Cost
pass_mark r = record { gas = r.ceiling_gas; bytes = r.ceiling_bytes }

-- r with the step list xs is the answer under the lower allowances, s with ys that under the higher
pub record Demand3 (r : Answer) (xs : List ℕ) (s : Answer) (ys : List ℕ) : Type 0 where
  -- a plan stays a plan
  pub stays : r.found ≡ 1 → s.found ≡ 1
  -- the pass mark never rises
  pub no_higher : r.found ≡ 1 → no_more (pass_mark s) (pass_mark r) ≡ true
  -- a plan costs no more than its own ceiling
  pub first_within : r.found ≡ 1 → no_more (plan_cost r) (pass_mark r) ≡ true
  pub second_within : s.found ≡ 1 → no_more (plan_cost s) (pass_mark s) ≡ true
  -- where the first run ended by itself (0, 2 or 3) the two agree in every field and step
  pub same_fields : Settled r.ending → r ≡ s
  pub same_steps : Settled r.ending → take r.step_count xs ≡ take s.step_count ys

-- ---- the builders' plan is in hand at its cost

-- the plan of what the builders left
abbrev own : Held → Found Cost ℕ
own h = record { origin = h.origin; steps = h.plan; cost = h.bound; ceiling = h.bound }

held_if : (h : Held) (p : Found Cost ℕ) (b : Bool) → (None if b otherwise Some (own h)) ≡ Some p → (p.ceiling ≡ h.bound) × T (gas_bytes.le p.cost p.ceiling)
held_if h p true e = let z : ◌≡◌ {A = ℕ} 0 1 = cc in absurd (omega arith)
held_if h p false e =
    subst (λ (x : Found Cost ℕ). (x.ceiling ≡ h.bound) × T (gas_bytes.le x.cost x.ceiling)) (some_injective (own h) p e) (refl, gas_bytes.order.reflexive h.bound)

held_at : (h : Held) (p : Found Cost ℕ) → plan_held h ≡ Some p → (p.ceiling ≡ h.bound) × T (gas_bytes.le p.cost p.ceiling)
held_at h p e = held_if h p (eqb h.origin 0) e

-- ---- the answers before they become fields

pub steady_answers : (a : Asked) (A A' : Allowance) (l : Lent) → A ⊑ A' → Accepted (allowing a A') l → Steady gas_bytes ℕ (answered (allowing a A)) (answered (allowing a A'))
unfolding answered
steady_answers a A A' l more ok =
    let b = bounds (allowing a A') l ok in
    steady gas_bytes (problem_of (question_of a) a.start) (listed a.prices) 50 30000 (bounded (question_of a) a.start b ok.prices)
    (price_listed (question_of a) b a.start) (before a).bound (plan_held (before a)) (held_at (before a)) A A' more
    (domain_fits A'.expansions ok.expansions)

-- ---- as fields

pub le_more : (c d : Cost) → T (gas_bytes.le c d) → no_more c d ≡ true
le_more c d h = sym (le_is c d) ∙ T_true (gas_bytes.le c d) h

-- the plan's steps
abbrev pub plan_of : Option (Found Cost ℕ) → List ℕ
plan_of None = []
plan_of (Some p) = p.steps

module _ (q : Rules) (start : List ℕ) where
  -- the fields of an answer, and its step list
  abbrev pub fields : Answered Cost ℕ → Answer
  fields r = fields_of q start r.plan r.ending r.expansions

  pub no_plan : (o : Option (Found Cost ℕ)) (e x : ℕ) → (fields_of q start o e x).found ≡ 1 → (p : Found Cost ℕ) × (o ≡ Some p)
  no_plan None e x h = absurd (omega arith)
  no_plan (Some p) e x h = (p, refl)

  -- the first step_count entries of the step list are the plan, whatever was there
  pub taken : (o : Option (Found Cost ℕ)) (e x : ℕ) (xs : List ℕ) → take (fields_of q start o e x).step_count (steps_with o xs) ≡ plan_of o
  taken None e x xs = refl
  taken (Some p) e x xs = take_at p.steps (drop (length p.steps) xs) (length p.steps) refl
