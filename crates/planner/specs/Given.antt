-- What the values of the inner functions stand for.
use Rattle.std.specs.Prelude.{ℕ, List, ◌≡◌, Option, None, Some, Result, Ok, Err}
use Rattle.costs.specs.Refusal.{number_of}
use Rattle.costs.specs.declared.Refusal.{Refusal}
use Rattle.costs.specs.declared.Cost.{Cost}
use Rattle.replay.specs.Machine.{Rules, rules_of}
use Rattle.replay.specs.declared.rules.Task.{Task}
use Rattle.astar.specs.Search.{number}
use Rattle.astar.specs.Planner.{Found}
use Rattle.incumbent.specs.Hand.{origin_number}
use Rattle.run.specs.Ending.{ended_by}
use Rattle.run.specs.View.{allowance}
use Rattle.run.specs.declared.Allowances.{Allowances}
use Rattle.planner.specs.Refusal.{Asked, asked}
use Rattle.planner.specs.Planned.{bare_of, refused, given}
use Rattle.planner.specs.declared.Answer.{Answer}
use Rattle.planner.specs.declared.Source.{Source}
use Rattle.planner.specs.declared.Source.TheVariants.{NoSteps, Builder, Search}
use Rattle.planner.specs.declared.Ending.{Ending}
use Rattle.planner.specs.declared.Ending.TheVariants.{AtGoal, NoExpansion, Searched}
use Rattle.planner.specs.declared.ModelPlan.{ModelPlan}
use Rattle.planner.specs.declared.Planned.{Planned}

-- what a task asks under its allowances
abbrev pub task_asked : Task → Allowances → Asked
task_asked t a = asked (rules_of t.rules) t.prices.now t.start.now t.goal.now (allowance a)

-- the number of the field origin
abbrev pub source_number : Source → ℕ
source_number NoSteps = 0
source_number (Builder o) = origin_number o
source_number Search = 3

-- the number of the field ending
abbrev pub ending_number : Ending → ℕ
ending_number AtGoal = 0
ending_number NoExpansion = 1
ending_number (Searched e) = number (ended_by e)

-- the fields beside an ending and expansions, without a plan and with one
abbrev pub answer_with : (ending expansions : ℕ) → Option ModelPlan → Answer
answer_with e x None = bare_of 0 0 e x 0
answer_with e x (Some p) =
    record {
      refusal = 0;
      found = 1;
      step_count = p.count;
      plan_gas = p.cost.gas;
      plan_bytes = p.cost.bytes;
      ceiling_gas = p.ceiling.gas;
      ceiling_bytes = p.ceiling.bytes;
      origin = source_number p.source;
      ending = e;
      expansions = x;
      highest = p.highest;
    }

abbrev pub answer_of : Planned → Answer
answer_of r = answer_with (ending_number r.ending) r.expansions r.plan

-- the answer, or the number of a refusal
abbrev pub answered_of : Result Planned Refusal → Answer
answered_of (Ok r) = answer_of r
answered_of (Err r) = refused (number_of r)

-- the plan, if there is one, stands over the first places of the step list, and its fields are those of the answer
abbrev pub Gives : Rules → (start : List ℕ) → Option (Found Cost ℕ) → Option ModelPlan → (old new : List ℕ) → Type 0
Gives q start o r old new = (ending expansions : ℕ) → (answer_with ending expansions r, new) ≡ given q start (record { plan = o; ending = ending; expansions = expansions }) old

-- the start, of n keys, is the goal
abbrev pub start_given : ℕ → Answer
start_given n = bare_of 0 1 0 0 n
