-- What a step leads to: the window after the step, the step's listed price, and that window's estimate.
use Rattle.std.specs.Prelude.{ℕ, ◌≤◌, ◌≡◌, List, length}
use Rattle.costs.specs.declared.Step.{Step}
use Rattle.costs.specs.Packed.{cost_of}
use Rattle.replay.specs.Machine.{after}
use Rattle.window.specs.declared.PackedState.{PackedState}
use Rattle.window.specs.Pack.{Keys, pack}
use Rattle.window.specs.State.{whole}
use Rattle.window.specs.Keys.{keys_of, Window}
use Rattle.successors.specs.Successors.{price_by, firsts}
use Rattle.heuristic.specs.Heuristic.{least_dup, heuristic_of}
use Rattle.heuristic.specs.Counts.{Counted}
use Rattle.heuristic.specs.Steady.{Cheap, Standing}
use Rattle.offer.specs.declared.Successor.{Successor}

-- the state expanded: h is its estimate, have and want are the counts of its keys and of the goal's, dup is the least gas of a Dup
pub record Parent (prices : List ℕ) (dup h : ℕ) (have want : List ℕ) (state : PackedState) (goal : List ℕ) (dup_max : ℕ) : Type 0 where
  pub window : Window state
  pub standing : Standing prices dup h have want (keys_of state) goal
  pub short : length goal ≤ 21
  pub least : dup ≡ least_dup prices dup_max

-- the counts of a goal, and its keys each once
pub record Asking (prices : List ℕ) (want keys goal : List ℕ) : Type 0 where
  pub prices_cheap : Cheap prices
  pub wanted : Counted want goal
  pub goal_keys : Keys 6 goal
  pub short : length goal ≤ 21
  pub keys_are : keys ≡ firsts goal

-- the successor r is by the step to the state, at the step's listed price, with an estimate of so much gas
pub record Formed (prices : List ℕ) (s : Step) (state : PackedState) (gas : ℕ) (r : Successor) : Type 0 where
  pub state_is : r.state ≡ state
  pub price : cost_of r.price ≡ price_by prices s
  pub est : cost_of r.est ≡ record { gas = gas; bytes = 0 }
  pub by : r.step ≡ s

-- what is told of the step s from the window w
pub record Told (prices : List ℕ) (dup_max : ℕ) (goal w : List ℕ) (s : Step) (r : Successor) : Type 0 where
  pub window : whole r.state ≡ pack 6 (after s w)
  pub keys : Keys 6 (after s w)
  pub fits : length (after s w) ≤ 21
  pub price : cost_of r.price ≡ price_by prices s
  pub est : cost_of r.est ≡ heuristic_of prices dup_max goal (after s w)
  pub by : r.step ≡ s
