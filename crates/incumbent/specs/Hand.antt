-- The plan in hand before the search, and the bound (document 01, "A bound before the search").
use Rattle.std.specs.Prelude.{ℕ, List, [], ◌++◌, length, take, drop}
use Rattle.std.specs.Prelude.{Option, None, Some}
use Rattle.costs.specs.Choice.{◌if◌otherwise◌}
use Rattle.costs.specs.declared.Cost.{Cost}
use Rattle.costs.specs.Cost.{no_more}
use Rattle.costs.specs.Price.{cost_for_steps}
use Rattle.replay.specs.Machine.{Rules, rules_of}
use Rattle.replay.specs.declared.rules.Task.{Task}
use Rattle.builders.specs.Tail.{tail_plan}
use Rattle.builders.specs.Dup.{dup_and_star}
use Rattle.builders.specs.Draft.{steps_of}
use Rattle.incumbent.specs.Flush.{flush_cost}
use Rattle.incumbent.specs.declared.Hand.{Hand}
use Rattle.incumbent.specs.declared.plans.Plan.{Plan}
use Rattle.incumbent.specs.declared.plans.Origin.{Origin}
use Rattle.incumbent.specs.declared.plans.Origin.TheVariants.{DeleteTail, DupAndStar}

-- the bound, whose plan it is (0 none, 1 delete-tail, 2 dup-and-star), and the plan's steps
pub record Held : Type 0 where
  pub bound : Cost
  pub origin : ℕ
  pub plan : List ℕ

-- a builder's plan takes the place of what is in hand unless it is dearer than the bound; where a builder has no plan nothing changes
abbrev pub offered : List ℕ → ℕ → Option (List ℕ) → Held → Held
offered prices origin None h = h
offered prices origin (Some plan) h =
    record { bound = cost_for_steps prices plan; origin = origin; plan = plan } if no_more (cost_for_steps prices plan) h.bound otherwise h

-- the fold over the candidates: the flush cost without a plan, then delete-tail, then dup-and-star
unfoldable pub in_hand : List ℕ → Rules → List ℕ → List ℕ → Held
in_hand prices q start goal =
    offered prices 2 (steps_of (dup_and_star q start goal))
    (offered prices 1 (tail_plan q.swap_max start goal)
    (record { bound = flush_cost prices start goal; origin = 0; plan = [] }))

-- what is in hand for a task
abbrev pub task_hand : Task → Held
task_hand t = in_hand t.prices.now (rules_of t.rules) t.start.now t.goal.now

-- the number of a builder
abbrev pub origin_number : Origin → ℕ
origin_number DeleteTail = 1
origin_number DupAndStar = 2

-- a bound and the plan in hand, if there is one, whose steps stand in a list
abbrev pub held_with : Cost → Option Plan → List ℕ → Held
held_with c None list = record { bound = c; origin = 0; plan = [] }
held_with c (Some p) list = record { bound = c; origin = origin_number p.origin; plan = take p.count list }

-- what a hand and the list beside it hold
abbrev pub held_of : Hand → List ℕ → Held
held_of h list = held_with h.bound h.plan list

-- a list with a plan over its first places, the rest as it was
abbrev pub over_list : List ℕ → List ℕ → List ℕ
over_list plan old = plan ++ drop (length plan) old
