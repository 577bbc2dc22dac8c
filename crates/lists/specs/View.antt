-- What the lent lists hold, in the definitions of the search: the nodes in the order of discovery, and the open entries, least first.
use Rattle.std.specs.Prelude.{◌≡◌, List, ◌∷◌, map, ℕ, ◌+◌, ◌*◌, ◌≤◌, length, Option, None}
use Rattle.std.specs.Option.{option_map}
use Rattle.costs.specs.declared.Cost.{Cost}
use Rattle.costs.specs.declared.Step.{Step}
use Rattle.costs.specs.Step.{code_of, decoded}
use Rattle.costs.specs.Packed.{cost_of}
use Rattle.window.specs.declared.PackedState.{PackedState}
use Rattle.window.specs.State.{whole}
use Rattle.algebra.specs.GasBytes.{gas_bytes}
use Rattle.astar.specs.Search.{Node as NodeOver, Entry, find, store, push}
use Rattle.astar.specs.Rows.{rows}
use Rattle.astar.specs.Places.{Once, NotBefore}
use Rattle.heap.specs.Heap.{sorted, decode, Heap}
use Rattle.heap.specs.declared.Entry.{Entry as Waiting}
use Rattle.nodes.specs.Nodes.{row_at, lookup, Chained, rows as newest}
use Rattle.nodes.specs.declared.Row.{Row}
use Rattle.lists.specs.declared.Node.{Node}

-- a node of the search, whose steps are codes
abbrev pub SearchNode : Type 0
SearchNode = NodeOver Cost ℕ

-- a node's parent: none, or a state with a step
abbrev pub parent_is : Option (PackedState × Step) → Option (ℕ × ℕ)
parent_is p = option_map (λ r. (whole r.0, code_of r.1)) p

abbrev pub node_is : Node → SearchNode
node_is n = record { state = whole n.state; cost = cost_of n.cost; parent = parent_is n.parent }

-- the same in a row of numbers: a number that is no step's code stands for no parent
unfoldable pub parent_of : PackedState → ℕ → Option (ℕ × ℕ)
parent_of s step = parent_is (option_map (λ by. (s, by)) (decoded step))

abbrev pub node_of : Row → SearchNode
node_of r = record { state = whole r.state; cost = cost_of r.cost; parent = parent_of r.parent r.step }

abbrev pub node_at : List ℕ → ℕ → SearchNode
node_at xs i = node_of (row_at xs i)

abbrev pub nodes_of : List ℕ → ℕ → List SearchNode
nodes_of xs n = rows n (node_at xs)

abbrev pub blank : SearchNode
blank = record { state = 0; cost = cost_of 0; parent = None }

-- ---- the open entries

abbrev pub waits : Waiting ℕ → Entry Cost
waits e = record { f = cost_of e.f; g = cost_of e.g; state = whole e.state }

abbrev pub entry_at : ℕ → Entry Cost
entry_at k = waits (decode k)

abbrev pub queue_of : List ℕ → ℕ → List (Entry Cost)
queue_of xs m = map entry_at (sorted xs m)

-- ---- what holds of the lists

-- the node list is as it should be: its chains lead to each node, and no state is in it twice
pub record Kept (xs hs : List ℕ) (n : ℕ) : Type 0 where
  pub chained : Chained xs hs n
  pub once : Once blank (nodes_of xs n)

-- the open list is as it should be
pub record Piled (xs : List ℕ) (m : ℕ) : Type 0 where
  pub heap : Heap xs m
  pub room : m * 4 ≤ length xs

-- ---- what the functions do

-- r is what a look-up of the state s finds among the first n nodes
pub record Sought (xs : List ℕ) (n : ℕ) (s : PackedState) (r : Option ℕ) : Type 0 where
  pub looked : r ≡ lookup (newest xs n) s
  pub found : option_map (node_at xs) r ≡ find (whole s) (nodes_of xs n)
  pub missing : r ≡ None → NotBefore blank (whole s) n (nodes_of xs n)

-- the node v was stored among the n nodes of xs
pub record Stored (xs : List ℕ) (n : ℕ) (v : SearchNode) (ys hs : List ℕ) (r : ℕ) : Type 0 where
  pub stored : nodes_of ys r ≡ store v (nodes_of xs n)
  pub kept : Kept ys hs r
  pub most : r ≤ n + 1

-- the entry e was pushed
pub record Pushed (xs : List ℕ) (m : ℕ) (e : Waiting ℕ) (ys : List ℕ) : Type 0 where
  pub pushed : queue_of ys (m + 1) ≡ push gas_bytes (waits e) (queue_of xs m)
  pub piled : Piled ys (m + 1)

-- the least entry was taken
pub record Taken (xs : List ℕ) (m : ℕ) (e : Waiting ℕ) (ys : List ℕ) (l : ℕ) : Type 0 where
  pub taken : queue_of xs m ≡ waits e ∷ queue_of ys l
  pub piled : Piled ys l
