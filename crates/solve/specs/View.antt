-- What a whole search answers, as the definition's planner has it.
use Rattle.std.specs.Prelude.{◌≡◌, Bool, false, List, [], ℕ, ◌≤◌, length, take, drop, Option, None, Some}
use Rattle.costs.specs.declared.Cost.{Cost}
use Rattle.costs.specs.Cost.{none as no-cost}
use Rattle.costs.specs.Packed.{cost_of}
use Rattle.costs.specs.Price.{price_of, cost_for_steps}
use Rattle.costs.specs.Step.{decoded}
use Rattle.window.specs.declared.PackedState.{PackedState}
use Rattle.window.specs.Pack.{Keys}
use Rattle.window.specs.State.{whole}
use Rattle.algebra.specs.GasBytes.{gas_bytes}
use Rattle.astar.specs.Search.{number, Search, begin}
use Rattle.astar.specs.Planner.{Found, Answer, given, searched}
use Rattle.successors.specs.Successors.{Question}
use Rattle.successors.specs.Whole.{asked}
use Rattle.replay.specs.declared.rules.Task.{Task}
use Rattle.problem.specs.Problem.{problem_of}
use Rattle.lists.specs.View.{SearchNode}
use Rattle.offer.specs.View.{Now}
use Rattle.offer.specs.declared.Sizes.{Sizes}
use Rattle.run.specs.Ending.{ended_by}
use Rattle.run.specs.View.{problem_for, allowance}
use Rattle.run.specs.declared.Ask.{Ask}
use Rattle.run.specs.declared.Allowances.{Allowances}
use Rattle.back.specs.Back.{ReadBack}
use Rattle.solve.specs.declared.Plan.{Plan}
use Rattle.solve.specs.declared.Outcome.{Outcome}

-- ---- begin

-- the estimate of a state
abbrev pub estimate_in : Question → ℕ → Cost
estimate_in q v = (problem_of q []).est v

-- the start's node: no cost, and no parent
abbrev pub first_node : PackedState → SearchNode
first_node s = record { state = whole s; cost = no-cost; parent = None }

-- the first search
abbrev pub first_of : Question → Ask → Cost → Bool → Search Cost ℕ
first_of q a bound have = begin gas_bytes (problem_for q a) bound have

-- the lists hold the first search's work
abbrev pub Begun : Question → Ask → List ℕ → List ℕ → List ℕ → Sizes → Type 0
Begun q a xs hs os r = Now 1 (record { nodes = 0; list = 0 }) (first_of q a (cost_of 0) false).work xs hs os r

-- ---- the plan

-- the plan that was read back, if a goal was recorded: its listed cost, and as its ceiling the g of that goal
abbrev pub PlanRead : Ask → (prices : List ℕ) → List SearchNode → ℕ → (xs ys : List ℕ) → (found : Option ℕ) → Option Plan → Type 0
PlanRead a prices ns k xs ys None r = (ys ≡ xs) × (r ≡ None)
PlanRead a prices ns k xs ys (Some g) None = ReadBack a.start a.goal k ns xs ys None
PlanRead a prices ns k xs ys (Some g) (Some p) = ReadBack a.start a.goal k ns xs ys (Some p.steps) × (p.cost ≡ cost_for_steps prices (take p.steps ys)) × (p.ceiling ≡ cost_of g)

-- ---- the answer

-- the listed price of a step code
abbrev pub priced_by : List ℕ → ℕ → Cost
priced_by prices c = price_of prices (decoded c)

-- the search's plan (origin 3), whose steps stand in ys, or else the builders'
abbrev pub plan_told : Option (Found Cost ℕ) → Option Plan → List ℕ → Option (Found Cost ℕ)
plan_told held None ys = held
plan_told held (Some p) ys = Some (record { origin = 3; steps = take p.steps ys; cost = p.cost; ceiling = p.ceiling })

-- what a caller gets, where `held` is the builders' plan and ys the step list
abbrev pub told : Option (Found Cost ℕ) → Outcome → List ℕ → Answer Cost ℕ
told held r ys = record { plan = plan_told held r.plan ys; ending = number (ended_by r.ending); expansions = r.expansions }

-- how many steps of the step list the plan is
abbrev pub steps_in : Option Plan → ℕ
steps_in None = 0
steps_in (Some p) = p.steps

-- The answer is the definition's, whatever the builders' plan was; behind the plan the step list is as it was.
pub record SearchedFor (q : Question) (a : Ask) (l : Allowances) (bound : Cost) (have : Bool) (r : Outcome) (xs ys : List ℕ) : Type 0 where
  pub answer : (held : Option (Found Cost ℕ)) → given held ≡ have → told held r ys ≡ searched gas_bytes (problem_for q a) (priced_by q.prices) 50 bound held (allowance l)
  pub rest : drop (steps_in r.plan) ys ≡ drop (steps_in r.plan) xs
  pub fits : steps_in r.plan ≤ length ys

-- The same of the question's problem from a start window to the goal.
pub record Searched (q : Question) (start : List ℕ) (l : Allowances) (bound : Cost) (have : Bool) (r : Outcome) (xs ys : List ℕ) : Type 0 where
  pub answer : (held : Option (Found Cost ℕ)) → given held ≡ have → told held r ys ≡ searched gas_bytes (problem_of q start) (priced_by q.prices) 50 bound held (allowance l)
  pub rest : drop (steps_in r.plan) ys ≡ drop (steps_in r.plan) xs
  pub fits : steps_in r.plan ≤ length ys

-- what a task asks of the search
abbrev pub question_of : Task → Question
question_of t = asked t.rules.cfg t.rules.kinds.now t.prices.now t.goal.now

-- the start is a window of the question
pub record StartFits (q : Question) (start : List ℕ) : Type 0 where
  pub keys : Keys 6 start
  pub fits : length start ≤ q.rules.max_len
