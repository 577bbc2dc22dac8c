-- What the code's values stand for in the definitions of the search.
use Rattle.std.specs.Prelude.{◌≡◌, Bool, true, false, List, ℕ, ◌+◌, ◌*◌, ◌≤◌, length, Option, Some, None, IfSome}
use Rattle.std.specs.Option.{option_map}
use Rattle.costs.specs.declared.Cost.{Cost}
use Rattle.costs.specs.Step.{code_of}
use Rattle.costs.specs.Packed.{cost_of}
use Rattle.window.specs.State.{whole}
use Rattle.algebra.specs.GasBytes.{gas_bytes}
use Rattle.astar.specs.Search.{Succ, Work, Hand, find, better, offer}
use Rattle.lists.specs.View.{SearchNode, nodes_of, queue_of, Kept, Piled, Stored}
use Rattle.offer.specs.Rules.{estimated, bare}
use Rattle.offer.specs.declared.Successor.{Successor}
use Rattle.offer.specs.declared.Held.{Held}
use Rattle.offer.specs.declared.Sizes.{Sizes}
use Rattle.offer.specs.declared.Origin.{Origin}

-- the sum of two costs
abbrev pub sum : Cost → Cost → Cost
sum a b = gas_bytes.◌⊞◌ a b

abbrev pub succ_of : Successor → Succ Cost ℕ
succ_of s = record { to = whole s.state; price = cost_of s.price; by = code_of s.step }

-- the bound, whether a plan is in hand, and the g of the last goal recorded
abbrev pub hand_of : Held → Hand Cost
hand_of h = record { bound = cost_of h.bound.cost; have = h.bound.have; last = option_map cost_of h.found }

-- the nodes and the open entries that are in use
abbrev pub work_of : List ℕ → List ℕ → Sizes → Work Cost ℕ
work_of xs os s = record { nodes = nodes_of xs s.nodes; queue = queue_of os s.list }

-- where a node that was found stands, there is room for it
abbrev pub Inside : List ℕ → Option ℕ → Type 0
Inside xs r = IfSome r (λ i. i * 8 + 8 ≤ length xs)

-- the node of the successor x of p at cost g
abbrev pub node_for : Origin → Successor → ℕ → SearchNode
node_for p x g = record { state = whole x.state; cost = cost_of g; parent = Some (whole p.state, code_of x.step) }

-- the state of v is new among the first n nodes, or v is strictly cheaper
abbrev pub is_better : List ℕ → ℕ → SearchNode → Bool
is_better xs n v = better gas_bytes (bare 0 0) v.cost (find v.state (nodes_of xs n))

-- A node v was offered to the node list: it is stored if its state is new or it is strictly cheaper.
abbrev pub Admitted : List ℕ → ℕ → SearchNode → List ℕ → List ℕ → Option ℕ → Type 0
Admitted xs n v ys hs (Some m) = (is_better xs n v ≡ true) × Stored xs n v ys hs m
Admitted xs n v ys hs None = (is_better xs n v ≡ false) × (nodes_of ys n ≡ nodes_of xs n) × Kept ys hs n

-- the lists are as they should be, and have room for k nodes and k open entries more
pub record HasRoom (k : ℕ) (xs hs os : List ℕ) (s : Sizes) : Type 0 where
  pub kept : Kept xs hs s.nodes
  pub piled : Piled os s.list
  pub nodes_room : (s.nodes + k) * 8 ≤ length xs
  pub list_room : (s.list + k) * 4 ≤ length os

-- the lists hold the work w, with no more than k nodes and k open entries more than there were
pub record Now (k : ℕ) (s : Sizes) (w : Work Cost ℕ) (xs hs os : List ℕ) (r : Sizes) : Type 0 where
  pub work : work_of xs os r ≡ w
  pub kept : Kept xs hs r.nodes
  pub piled : Piled os r.list
  pub nodes_most : r.nodes ≤ s.nodes + k
  pub list_most : r.list ≤ s.list + k

-- the work after the successor x of p was offered
abbrev pub offered : Held → Origin → Successor → Work Cost ℕ → Work Cost ℕ
offered h p x w = offer gas_bytes (estimated (cost_of x.est)) (hand_of h) (whole p.state) (cost_of p.cost) (succ_of x) w
