-- The search that the lent lists and the locals of a run stand for, and what it is that a run ended.
use Rattle.std.specs.Prelude.{◌≡◌, List, ℕ, ◌+◌, ◌*◌, ◌≤◌, length}
use Rattle.costs.specs.declared.Cost.{Cost}
use Rattle.window.specs.State.{whole}
use Rattle.algebra.specs.GasBytes.{gas_bytes}
use Rattle.astar.specs.Search.{Problem, Allowance, Search}
use Rattle.astar.specs.Again.{Ends}
use Rattle.successors.specs.Successors.{Question}
use Rattle.lists.specs.View.{nodes_of, Kept}
use Rattle.offer.specs.Rules.{coded}
use Rattle.offer.specs.View.{hand_of, work_of}
use Rattle.offer.specs.declared.Held.{Held}
use Rattle.offer.specs.declared.Sizes.{Sizes}
use Rattle.search.specs.View.{rules_of}
use Rattle.run.specs.Ending.{ended_by}
use Rattle.run.specs.declared.Ask.{Ask}
use Rattle.run.specs.declared.Allowances.{Allowances}
use Rattle.run.specs.declared.Left.{Left}

-- the problem of the question, from start to goal
abbrev pub problem_for : Question → Ask → Problem gas_bytes
problem_for q a = coded (rules_of q) (whole a.start) (whole a.goal)

abbrev pub allowance : Allowances → Allowance
allowance l = record { expansions = l.max_expansions; states_without = l.states_without; states_with = l.states_with }

abbrev pub search_of : List ℕ → List ℕ → Sizes → Held → ℕ → Search Cost ℕ
search_of xs os s h k = record { work = work_of xs os s; hand = hand_of h; count = k }

-- the lists have an entry for each state of either allowance, and 50 more
pub record Roomy (l : Allowances) (xs os : List ℕ) : Type 0 where
  pub nodes_without : l.states_without * 8 + 400 ≤ length xs
  pub nodes_with : l.states_with * 8 + 400 ≤ length xs
  pub list_without : l.states_without * 4 + 200 ≤ length os
  pub list_with : l.states_with * 4 + 200 ≤ length os

-- A run from s ended: what it left is the nodes, the hand and the count of the last search.
pub record Ran (q : Question) (a : Ask) (l : Allowances) (s : Search Cost ℕ) (xs hs : List ℕ) (r : Left) : Type 0 where
  pub last : Search Cost ℕ
  pub ends : Ends gas_bytes (problem_for q a) (allowance l) s last (ended_by r.ending)
  pub nodes_are : last.work.nodes ≡ nodes_of xs r.nodes
  pub hand_is : last.hand ≡ hand_of r.held
  pub count_is : last.count ≡ r.count
  pub kept : Kept xs hs r.nodes
  pub few : r.count ≤ l.max_expansions
