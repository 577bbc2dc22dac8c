-- What the planner answers.
use Rattle.std.specs.Prelude.{ℕ, List, ◌++◌, ◌≡◌, eqb, length, drop}
use Rattle.std.specs.Prelude.{Option, None, Some}
use Rattle.costs.specs.Choice.{◌if◌otherwise◌}
use Rattle.costs.specs.declared.Cost.{Cost}
use Rattle.costs.specs.Price.{price_of}
use Rattle.costs.specs.Step.{decoded}
use Rattle.replay.specs.Machine.{Rules, highest}
use Rattle.replay.specs.Beneath.{Footing}
use Rattle.algebra.specs.GasBytes.{gas_bytes}
use Rattle.astar.specs.Planner.{Found, Answer as Answered, planned}
use Rattle.successors.specs.Successors.{Question}
use Rattle.problem.specs.Problem.{problem_of}
use Rattle.incumbent.specs.Hand.{Held, in_hand}
use Rattle.planner.specs.Refusal.{Asked, Lent, ruled_by, footing_of, plan_table}
use Rattle.planner.specs.declared.Answer.{Answer}

-- what the search is asked
abbrev pub question_of : Asked → Question
question_of a = record { rules = a.rules; prices = a.prices; goal = a.goal }

-- the listed price of a step's code
abbrev pub listed : List ℕ → ℕ → Cost
listed prices code = price_of prices (decoded code)

-- the builders' plan in hand, at its cost; none at origin 0
abbrev pub plan_held : Held → Option (Found Cost ℕ)
plan_held h = None if eqb h.origin 0 otherwise Some (record { origin = h.origin; steps = h.plan; cost = h.bound; ceiling = h.bound })

-- the bound and the plan before the search (document 01, "A bound before the search")
abbrev pub before : Asked → Held
before a = in_hand a.prices a.rules a.start a.goal

-- the answer of an accepted planning: ending 0 if the start is the goal, 1 if no expansion is allowed, otherwise the search's
unfoldable pub answered : Asked → Answered Cost ℕ
answered a =
    planned gas_bytes (problem_of (question_of a) a.start) (listed a.prices) 50 (before a).bound (plan_held (before a)) a.allowance

-- zeros but for these
abbrev pub bare_of : (refusal found ending expansions high : ℕ) → Answer
bare_of refusal found ending expansions high =
    record {
      refusal = refusal;
      found = found;
      step_count = 0;
      plan_gas = 0;
      plan_bytes = 0;
      ceiling_gas = 0;
      ceiling_bytes = 0;
      origin = 0;
      ending = ending;
      expansions = expansions;
      highest = high;
    }

-- the fields, without a plan and with one (document 01, "The planner's answer"); the highest window is that of the plan's steps (request U1)
abbrev pub fields_of : Rules → (start : List ℕ) → Option (Found Cost ℕ) → (ending expansions : ℕ) → Answer
fields_of q start None ending expansions = bare_of 0 0 ending expansions 0
fields_of q start (Some p) ending expansions =
    record {
      refusal = 0;
      found = 1;
      step_count = length p.steps;
      plan_gas = p.cost.gas;
      plan_bytes = p.cost.bytes;
      ceiling_gas = p.ceiling.gas;
      ceiling_bytes = p.ceiling.bytes;
      origin = p.origin;
      ending = ending;
      expansions = expansions;
      highest = highest q p.steps start;
    }

-- a refusal: zeros beside the number
abbrev pub refused : ℕ → Answer
refused n = bare_of n 0 0 0 0

-- the step list: the plan over its first places, behind it what stood there
abbrev pub steps_with : Option (Found Cost ℕ) → List ℕ → List ℕ
steps_with None old = old
steps_with (Some p) old = p.steps ++ drop (length p.steps) old

-- an answer's fields and its step list
abbrev pub given : Rules → (start : List ℕ) → Answered Cost ℕ → List ℕ → Answer × List ℕ
given q start r old = (fields_of q start r.plan r.ending r.expansions, steps_with r.plan old)

-- the answer and the step list at exit on a footing
unfoldable pub planned_on : Footing → Asked → Lent → List ℕ → Answer × List ℕ
planned_on on a l steps =
    given on.runs a.start (answered (ruled_by on.runs a)) steps if eqb (plan_table on a l) 0 otherwise
    (refused (plan_table on a l), steps)

-- the answer and the step list at exit, on all input: builders and search work with the narrowed rules
abbrev pub planned_for : Asked → Lent → List ℕ → Answer × List ℕ
planned_for a l steps = planned_on (footing_of a) a l steps

-- a work list keeps its length, and beside a refusal its content; after an accepted call the content is free
pub record WorkKept (refusal : ℕ) (old new : List ℕ) : Type 0 where
  pub same_length : length new ≡ length old
  pub unchanged : (refusal ≡ 0 → ⊥) → new ≡ old
