-- The bounded A* search over any costs and any problem. All of it states document 01, section "One turn of the search"; a name in quotes is the
-- beginning of the sentence there.
use Rattle.std.specs.Prelude.{Bool, true, cond, not, ◌||◌, List, [], ◌∷◌, ℕ, zero, suc, ◌+◌, ◌*◌, leb, ltb, eqb, length}
use Rattle.std.specs.Prelude.{Option, None, Some}
use Rattle.astar.specs.Maybe.{bind}
use Rattle.astar.specs.Cost.{CostAlgebra, lt, same, lex}

-- A successor: the state it leads to, the step's price, the step.
pub record Succ (C Step : Type 0) : Type 0 where
  pub to : ℕ
  pub price : C
  pub by : Step

-- A problem: states are numbers. `after s q` are the successors of s, in order, where q is the step that led to s, if any.
pub record Problem (K : CostAlgebra) : Type 1 where
  pub Step : Type 0
  pub start : ℕ
  pub goal : ℕ
  pub est : ℕ → K.C
  pub after : ℕ → Option Step → List (Succ K.C Step)

-- What a caller allows: expansions, and states without and with a plan in hand.
pub record Allowance : Type 0 where
  pub expansions : ℕ
  pub states_without : ℕ
  pub states_with : ℕ

pub data Ending : Type 0 where
  drained cutOff states expansions : Ending

-- the numbers of document 01
unfoldable pub number : Ending → ℕ
number drained = 2
number cutOff = 3
number states = 4
number expansions = 5

-- A node: a state, its cost so far, and the state and step that it was reached by (none at the start).
pub record Node (C Step : Type 0) : Type 0 where
  pub state : ℕ
  pub cost : C
  pub parent : Option (ℕ × Step)

-- An entry of the open list.
pub record Entry (C : Type 0) : Type 0 where
  pub f : C
  pub g : C
  pub state : ℕ

-- The two lists: nodes in the order of first discovery, and open entries, least first.
pub record Work (C Step : Type 0) : Type 0 where
  pub nodes : List (Node C Step)
  pub queue : List (Entry C)

-- The plan in hand: the bound, whether there is a plan, and the g of the last goal recorded.
pub record Hand (C : Type 0) : Type 0 where
  pub bound : C
  pub have : Bool
  pub last : Option C

pub record Search (C Step : Type 0) : Type 0 where
  pub work : Work C Step
  pub hand : Hand C
  pub count : ℕ

-- A turn ends the run, and leaves the search as it stood, or goes on with another search.
pub data Turn (C Step : Type 0) : Type 0 where
  stop : Ending → Turn C Step
  go : Search C Step → Turn C Step

-- The last search of a run, and its ending: none if the fuel ran out first.
pub record Result (C Step : Type 0) : Type 0 where
  pub final : Search C Step
  pub ending : Option Ending

-- after a turn from s
unfoldable pub proceed : {C Step : Type 0} → Search C Step → Turn C Step → (Search C Step → Result C Step) → Result C Step
proceed s (stop e) k = record { final = s; ending = Some e }
proceed s (go t) k = k t

-- the step of a parent
unfoldable pub step_of : {Step : Type 0} → Option (ℕ × Step) → Option Step
step_of None = None
step_of (Some r) = Some r.1

-- ---- nodes

module _ {C Step : Type 0} where
  unfoldable pub find : ℕ → List (Node C Step) → Option (Node C Step)
  find v [] = None
  find v (n ∷ ns) = cond (eqb n.state v) (Some n) (find v ns)

  -- in the place of the node of that state, or else at the end
  unfoldable pub store : Node C Step → List (Node C Step) → List (Node C Step)
  store m [] = m ∷ []
  store m (n ∷ ns) = cond (eqb n.state m.state) (m ∷ ns) (n ∷ store m ns)

  unfoldable pub parent_in : Option (Node C Step) → Option (ℕ × Step)
  parent_in None = None
  parent_in (Some n) = n.parent

module _ (K : CostAlgebra) where
  open K use {C, 𝟘, le, ◌⊞◌}

  infixl 60 ◌⊞◌
  -- ---- open entries

  -- a comes no later than b: its f decides, among equal f its g, among equal g its state ("The open entry")
  unfoldable pub before : Entry C → Entry C → Bool
  before a b = lex (le a.f b.f) (le b.f a.f) (lex (le a.g b.g) (le b.g a.g) (leb a.state b.state))

  unfoldable pub push : Entry C → List (Entry C) → List (Entry C)
  push e [] = e ∷ []
  push e (x ∷ xs) = cond (before e x) (e ∷ x ∷ xs) (x ∷ push e xs)

  -- ---- the plan in hand

  -- an f that cannot improve on the bound: with a plan in hand it must stay below, without one it may reach the bound ("For any other state")
  unfoldable pub cut : Hand C → C → Bool
  cut H f = cond H.have (le H.bound f) (lt K H.bound f)

  -- a goal that was drawn at g becomes the plan in hand, and g the bound, unless a plan in hand is as cheap ("A goal is recorded")
  unfoldable pub record_goal : C → Hand C → Hand C
  record_goal g H = cond (not H.have || lt K g H.bound) (record { bound = g; have = true; last = Some g }) H

  module _ (Q : Problem K) where
    open Q use {Step, start, goal, est, after}

    -- ---- expanding

    -- the state has no node yet, or a dearer one ("A successor is stored")
    unfoldable pub better : C → Option (Node C Step) → Bool
    better g None = true
    better g (Some n) = lt K g n.cost

    -- a successor costs what its parent costs and its step ("a stored successor's"): the node and the open entry of a successor x of p,
    -- where p's g is g
    abbrev pub node_of : ℕ → C → Succ C Step → Node C Step
    node_of p g x = record { state = x.to; cost = g ⊞ x.price; parent = Some (p, x.by) }

    abbrev pub entry_of : C → Succ C Step → Entry C
    entry_of g x = record { f = g ⊞ x.price ⊞ est x.to; g = g ⊞ x.price; state = x.to }

    abbrev pub stored : ℕ → C → Succ C Step → Work C Step → Work C Step
    stored p g x w = record { nodes = store (node_of p g x) w.nodes; queue = push (entry_of g x) w.queue }

    -- a successor is stored unless its f is cut off or its state has a node as cheap ("A successor is stored")
    unfoldable pub offer : Hand C → ℕ → C → Succ C Step → Work C Step → Work C Step
    offer H p g x w = cond (cut H (entry_of g x).f) w (cond (better (entry_of g x).g (find x.to w.nodes)) (stored p g x w) w)

    -- the successors in order
    unfoldable pub offers : Hand C → ℕ → C → List (Succ C Step) → Work C Step → Work C Step
    offers H p g [] w = w
    offers H p g (x ∷ xs) w = offers H p g xs (offer H p g x w)

    -- ---- a turn

    -- s with the open entries es
    abbrev pub without : List (Entry C) → Search C Step → Search C Step
    without es s = record { work = record { nodes = s.work.nodes; queue = es }; hand = s.hand; count = s.count }

    -- s with a goal drawn at g
    abbrev pub recorded : C → Search C Step → Search C Step
    recorded g s = record { work = s.work; hand = record_goal g s.hand; count = s.count }

    -- s with the state v of the node n expanded, and counted ("Then the state")
    abbrev pub expanded : ℕ → Node C Step → Search C Step → Search C Step
    expanded v n s =
        record { work = offers s.hand v n.cost (after v (step_of n.parent)) s.work; hand = s.hand; count = suc s.count }

    module _ (A : Allowance) where
      -- the state allowance for the present hand: without, or with, a plan in hand
      abbrev pub allowed : Hand C → ℕ
      allowed H = cond H.have A.states_with A.states_without

      -- more nodes, or more open entries that still wait, than the allowance has states ("nodes, or open entries")
      unfoldable pub over : Search C Step → Bool
      over s = ltb (allowed s.hand) (length s.work.nodes) || ltb (allowed s.hand) (length s.work.queue)

      -- a state that is drawn and is not the goal ("For any other state"); s is without the entry drawn
      unfoldable pub visit : Search C Step → Entry C → Node C Step → Turn C Step
      visit s e n =
          cond
          -- ending 3
          (cut s.hand e.f)
          (stop cutOff)
          (cond
          -- ending 4
          (over s)
          (stop states)
          -- ending 5, or the state is expanded
          (cond (leb A.expansions s.count) (stop expansions) (go (expanded e.state n s))))

      -- an entry drawn, and its state's node; s is without that entry
      unfoldable pub drawn : Search C Step → Entry C → Option (Node C Step) → Turn C Step
      drawn s e None = go s
      drawn s e (Some n) =
          cond
          -- an entry whose state has become cheaper since is passed over ("An entry whose g")
          (same K e.g n.cost)
          -- the goal is recorded and not expanded ("A drawn goal")
          (cond (eqb e.state goal) (go (recorded n.cost s)) (visit s e n))
          (go s)

      -- ending 2 where nothing waits ("An empty open list"); otherwise the head of the list is drawn ("The open entry"), which is the least in every
      -- search of a run (Sorted `drawn_least`)
      unfoldable pub turn_on : Search C Step → List (Entry C) → Turn C Step
      turn_on s [] = stop drained
      turn_on s (e ∷ es) = drawn (without es s) e (find e.state s.work.nodes)

      unfoldable pub turn : Search C Step → Turn C Step
      turn s = turn_on s s.work.queue

      -- ---- a run

      unfoldable pub run : ℕ → Search C Step → Result C Step
      run zero s = record { final = s; ending = None }
      run (suc k) s = proceed s (turn s) (λ t. run k t)

    -- the first search: the start at no cost ("The start's g"), with the bound and the plan that the builders gave
    unfoldable pub begin : C → Bool → Search C Step
    begin bound have =
        record {
          work = record { nodes = record { state = start; cost = 𝟘; parent = None } ∷ []; queue = record { f = est start; g = 𝟘; state = start } ∷ [] };
          hand = record { bound = bound; have = have; last = None };
          count = zero;
        }

    -- turns that are enough for any run, with at most b successors to a state
    unfoldable pub enough : ℕ → Allowance → ℕ
    enough b A = 2 + b * A.expansions

    -- ---- reading a plan back

    -- The steps from the start to v, put before those that are given: parents are followed from v up. At most k states are looked at.
    unfoldable pub read_back : ℕ → List (Node C Step) → ℕ → List Step → Option (List Step)
    read_back zero ns v steps = None
    read_back (suc k) ns v steps = cond (eqb v start) (Some steps) (bind (parent_in (find v ns)) (λ r. read_back k ns r.0 (r.1 ∷ steps)))
