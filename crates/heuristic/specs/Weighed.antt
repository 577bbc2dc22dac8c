-- The words of the contracts, over the weights that the code is given.
use Rattle.std.specs.Prelude.{ℕ, ◌+◌, ◌<◌, ◌≤◌, ◌≡◌, List, get_or}
use Rattle.heuristic.specs.declared.Weights.{Weights}
use Rattle.heuristic.specs.declared.Change.{Change}
use Rattle.heuristic.specs.declared.Change.TheVariants.{Adds, Saves}
use Rattle.heuristic.specs.Heuristic.{sum_to, key_term}
use Rattle.heuristic.specs.Counts.{count_term}
use Rattle.heuristic.specs.Bare.{bare_term}
use Rattle.heuristic.specs.Steady.{Cheap, Standing}

-- what a key adds with so many copies there
abbrev pub term_of : Weights → (k count : ℕ) → ℕ
term_of x k count = count_term x.prices.now x.dup x.want.now k count

-- and with no copy there
abbrev pub bare_of : Weights → ℕ → ℕ
bare_of x = bare_term x.prices.now x.dup x.want.now

-- the estimate of a window for a goal
abbrev pub estimate_of : Weights → (goal w : List ℕ) → ℕ
estimate_of x goal w = sum_to (key_term x.prices.now x.dup goal w) 64

-- h is the estimate of the window w for the goal, and have is the counts of its keys
abbrev pub Stands : Weights → (h : ℕ) → (have w goal : List ℕ) → Type 0
Stands x h have w goal = Standing x.prices.now x.dup h have x.want.now w goal

-- inside the domain: prices of at most 30,000, and at most 42 copies of a key, there or wanted
pub record Few (x : Weights) (k count : ℕ) : Type 0 where
  pub prices_cheap : Cheap x.prices.now
  pub place : k < 64
  pub wanted : get_or x.want.now k 0 ≤ 42
  pub copies : count ≤ 42

-- what a copy more does: one that the goal does not want is to be popped again, one that it wants need not be made any more
abbrev pub Changes : Change → (before after : ℕ) → Type 0
Changes (Adds gas) before after = after ≡ before + gas
Changes (Saves gas) before after = before ≡ after + gas
