-- Reading a plan back: how many steps, and which.
use Rattle.std.specs.Prelude.{◌≡◌, cond, List, [], ℕ, zero, suc, ◌≤◌, eqb, length, take, drop, Option, Some, None, IfSome}
use Rattle.astar.specs.Maybe.{bind}
use Rattle.algebra.specs.GasBytes.{gas_bytes}
use Rattle.astar.specs.Search.{find, parent_in, read_back}
use Rattle.window.specs.declared.PackedState.{PackedState}
use Rattle.window.specs.State.{whole}
use Rattle.lists.specs.View.{SearchNode}
use Rattle.offer.specs.Rules.{bare}

-- how many steps a read-back gives, onto those that are given
unfoldable pub count_back : ℕ → ℕ → List SearchNode → ℕ → ℕ → Option ℕ
count_back start zero ns v c = None
count_back start (suc k) ns v c = cond (eqb v start) (Some c) (bind (parent_in (find v ns)) (λ r. count_back start k ns r.0 (suc c)))

-- the plan of the goal has k steps, and no more than the most
abbrev pub HasSteps : PackedState → PackedState → ℕ → List SearchNode → ℕ → Type 0
HasSteps from to most ns k = count_back (whole from) (suc most) ns (whole to) 0 ≡ Some k

-- the plan that is read back of the goal, with at most k steps
abbrev pub plan : PackedState → PackedState → ℕ → List SearchNode → Option (List ℕ)
plan from to k ns = read_back gas_bytes (bare (whole from) (whole to)) (suc k) ns (whole to) []

-- a count that was made, and is no more than the most
pub record Counted (from to : PackedState) (most : ℕ) (ns : List SearchNode) (r : Option ℕ) : Type 0 where
  pub count_is : r ≡ count_back (whole from) (suc most) ns (whole to) 0
  pub few : IfSome r (λ k. k ≤ most)

-- the k steps of the plan stand in the first places of a list, and the rest of it is as it was
pub record Written (from to : PackedState) (most : ℕ) (ns : List SearchNode) (k : ℕ) (xs ys : List ℕ) : Type 0 where
  pub steps_are : plan from to most ns ≡ Some (take k ys)
  pub rest : drop k ys ≡ drop k xs
  pub fits : k ≤ length ys

-- what a read-back answers: the plan's length, with the plan in the list; or that there is none, with the list as it was
abbrev pub ReadBack : PackedState → PackedState → ℕ → List SearchNode → List ℕ → List ℕ → Option ℕ → Type 0
ReadBack from to most ns xs ys None = (plan from to most ns ≡ None) × (ys ≡ xs)
ReadBack from to most ns xs ys (Some k) = Written from to most ns k xs ys
