-- The successors of a window, in their order (document 01, "One turn of the search": "Successors in order", "Skipped").
use Rattle.std.specs.Prelude.{ℕ, ◌-◌, min, Bool, ◌&&◌, not, List, [], ◌∷◌, ◌++◌, reverse, suc, length, get_or, take, eqb, ltb, leb}
use Rattle.std.specs.Prelude.{Option, None, Some}
use Rattle.costs.specs.Choice.{◌if◌otherwise◌}
use Rattle.costs.specs.Cost.{no_more}
use Rattle.costs.specs.Price.{price_of}
use Rattle.costs.specs.declared.Cost.{Cost}
use Rattle.costs.specs.declared.Step.{Step}
use Rattle.costs.specs.declared.Step.TheVariants.{Pop, Dup, Swap, PushImm, LoadVal}
use Rattle.replay.specs.Machine.{Rules, room}
use Rattle.successors.specs.Parts.{offer, up_to, each, some_below, has}

-- what a question says of its successors: the rules of steps, the prices, and the goal
pub record Question : Type 0 where
  pub rules : Rules
  pub prices : List ℕ
  pub goal : List ℕ

-- the depth of the Swap just made, 0 if the step just made was none
abbrev pub depth_of : Step → ℕ
depth_of Pop = 0
depth_of (Dup p) = 0
depth_of (Swap d) = d
depth_of (PushImm k) = 0
depth_of (LoadVal k) = 0

abbrev pub last_depth : Option Step → ℕ
last_depth None = 0
last_depth (Some s) = depth_of s

-- how long the two lists are the same from their heads on
unfoldable pub common : List ℕ → List ℕ → ℕ
common [] ys = 0
common (x ∷ xs) [] = 0
common (x ∷ xs) (y ∷ ys) = suc (common xs ys) if eqb x y otherwise 0

-- the place where the common suffix of the window and the goal starts
unfoldable pub suffix_start : List ℕ → List ℕ → ℕ
suffix_start w goal = length w - common (reverse w) (reverse goal)

-- the keys of a list in order, each where it first stands
unfoldable pub is_first : List ℕ → ℕ → Bool
is_first ks i = not (has (get_or ks i 0) (take i ks))

abbrev pub first_at : List ℕ → ℕ → List ℕ
first_at ks i = offer (is_first ks i) (get_or ks i 0)

unfoldable pub firsts : List ℕ → List ℕ
firsts ks = up_to (first_at ks) (length ks)

-- whether a key is of the kind
unfoldable pub kind_is : List ℕ → ℕ → ℕ → Bool
kind_is kinds n k = eqb (get_or kinds k 0) n

unfoldable pub price_by : List ℕ → Step → Cost
price_by prices s = price_of prices (Some s)

-- Pop
abbrev pub pops : List ℕ → List Step
pops w = offer (ltb 0 (length w)) Pop

-- the push of the zero, where the goal wants one
abbrev pub zero_at : List ℕ → ℕ → List Step
zero_at kinds k = offer (kind_is kinds 2 k) (PushImm k)

-- a Swap is offered unless it undoes the last step, changes nothing, or reaches into the common suffix (from start on) where a Dup could copy the key
unfoldable pub swap_offered : List ℕ → (dup_max start last d : ℕ) → Bool
swap_offered w dup_max start last d =
    ltb 0 d
    && (not (eqb d last)
    && (not (eqb (get_or w 0 0) (get_or w d 0))
    && not (leb start d && ltb d dup_max)))

abbrev pub swap_at : List ℕ → (dup_max start last d : ℕ) → List Step
swap_at w dup_max start last d = offer (swap_offered w dup_max start last d) (Swap d)

-- a zero that the goal has
unfoldable pub goal_zero : (kinds goal : List ℕ) → ℕ → Bool
goal_zero kinds goal k = kind_is kinds 2 k && has k goal

-- a Dup is offered for the highest place of each key, but not for a zero that the goal has
unfoldable pub dup_offered : (kinds goal w : List ℕ) → ℕ → Bool
dup_offered kinds goal w p = not (has (get_or w p 0) (take p w)) && not (goal_zero kinds goal (get_or w p 0))

abbrev pub dup_at : (kinds goal w : List ℕ) → ℕ → List Step
dup_at kinds goal w p = offer (dup_offered kinds goal w p) (Dup p)

-- a Dup at p is of k and costs no more than the push of k
unfoldable pub dup_serves : (prices w : List ℕ) → ℕ → ℕ → Bool
dup_serves prices w k p = eqb (get_or w p 0) k && no_more (price_by prices (Dup p)) (price_by prices (PushImm k))

-- the push of k is not cheaper than its cheapest reachable Dup, where Dups reach so many places
unfoldable pub dominated : (prices w : List ℕ) → (reach k : ℕ) → Bool
dominated prices w reach k = some_below (dup_serves prices w k) reach

-- a push of another immediate is offered unless a Dup in reach makes the same key as cheaply
unfoldable pub other_offered : (kinds prices w : List ℕ) → (reach k : ℕ) → Bool
other_offered kinds prices w reach k = kind_is kinds 1 k && not (dominated prices w reach k)

abbrev pub other_at : (kinds prices w : List ℕ) → (reach k : ℕ) → List Step
other_at kinds prices w reach k = offer (other_offered kinds prices w reach k) (PushImm k)

-- a key that a Dup reaches
unfoldable pub reached : List ℕ → (reach k : ℕ) → Bool
reached w reach k = has k (take reach w)

-- a load is offered unless a Dup reaches the key
unfoldable pub load_offered : (kinds w : List ℕ) → (reach k : ℕ) → Bool
load_offered kinds w reach k = kind_is kinds 0 k && not (reached w reach k)

abbrev pub load_at : (kinds w : List ℕ) → (reach k : ℕ) → List Step
load_at kinds w reach k = offer (load_offered kinds w reach k) (LoadVal k)

-- the steps of each kind: Swaps and Dups from the top down, pushes and loads as the goal names its keys
abbrev pub swaps : List ℕ → (dup_max swap_max start last : ℕ) → List Step
swaps w dup_max swap_max start last = up_to (swap_at w dup_max start last) (min (length w) swap_max)

abbrev pub dups : (kinds goal w : List ℕ) → ℕ → List Step
dups kinds goal w reach = up_to (dup_at kinds goal w) reach

abbrev pub zeros : (kinds keys : List ℕ) → List Step
zeros kinds keys = each (zero_at kinds) keys

abbrev pub others : (kinds prices keys w : List ℕ) → ℕ → List Step
others kinds prices keys w reach = each (other_at kinds prices w reach) keys

abbrev pub loads : (kinds keys w : List ℕ) → ℕ → List Step
loads kinds keys w reach = each (load_at kinds w reach) keys

-- a full window does not grow
abbrev pub grown : (max_len n : ℕ) → List Step → List Step
grown max_len n steps = steps if room max_len n otherwise []

-- the steps from a window in order, where last is the depth of the Swap just made
unfoldable pub steps_from : Question → List ℕ → ℕ → List Step
steps_from q w last =
    let r = q.rules in
    let keys = firsts q.goal in
    let reach = min (length w) r.dup_max in
    pops w
    ++ (grown r.max_len (length w) (zeros r.kinds keys)
    ++ (swaps w r.dup_max r.swap_max (suffix_start w q.goal) last
    ++ grown r.max_len (length w)
    (dups r.kinds q.goal w reach
    ++ (others r.kinds q.prices keys w reach
    ++ loads r.kinds keys w reach))))
