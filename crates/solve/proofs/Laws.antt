-- The first search, and the plan that is read back.
use Rattle.std.proofs.Common.{◌≡◌, refl, sym, ap, subst, ◌∙◌, Bool, false, None, List, [], ◌∷◌, ℕ, ◌≤◌, ◌<◌, arith, length}
use Rattle.costs.specs.declared.Cost.{Cost}
use Rattle.costs.specs.Cost.{none as no-cost}
use Rattle.costs.specs.Packed.{cost_of}
use Rattle.window.specs.declared.PackedState.{PackedState}
use Rattle.window.specs.Decode.{decode}
use Rattle.window.specs.State.{whole}
use Rattle.window.specs.Keys.{keys_of}
use Rattle.algebra.specs.GasBytes.{gas_bytes}
use Rattle.astar.specs.Pairs.{sat, sat_exact}
use Rattle.astar.specs.Search.{Entry, Work, Search, find, store, push, begin}
use Rattle.astar.specs.Rows.{rows}
use Rattle.astar.specs.Places.{once_none}
use Rattle.astar.specs.Valid.{AllValid}
use Rattle.heap.specs.Heap.{sort}
use Rattle.nodes.specs.Nodes.{lookup, rows as newest}
use Rattle.nodes.proofs.Lemmas.{chained_empty}
use Rattle.successors.specs.Successors.{Question as Posed}
use Rattle.heuristic.specs.Heuristic.{heuristic_of}
use Rattle.heuristic.specs.Steady.{estimate_fits}
use Rattle.moves.specs.Told.{cost_is}
use Rattle.lists.specs.View.{SearchNode, nodes_of, queue_of, waits, blank, Kept, Sought, Stored, Pushed}
use Rattle.offer.specs.View.{work_of}
use Rattle.offer.specs.declared.Bound.{Bound}
use Rattle.offer.specs.declared.Sizes.{Sizes}
use Rattle.search.specs.View.{posed, Stands, IsWindow, Awaits}
use Rattle.search.specs.declared.Question.{Question}
use Rattle.run.specs.View.{search_of, Ran}
use Rattle.run.specs.declared.Allowances.{Allowances}
use Rattle.run.specs.declared.Ask.{Ask}
use Rattle.run.specs.declared.Left.{Left}
use Rattle.solve.specs.View.{estimate_in, first_node, first_of, Begun}

-- ---- lists in which nothing is trusted yet

pub kept_none : (xs hs : List ℕ) → 0 < length hs → Kept xs hs 0
unfolding rows
kept_none xs hs h = record { chained = chained_empty xs hs h; once = once_none blank }

pub sought_none : (xs : List ℕ) (s : PackedState) → Sought xs 0 s None
unfolding rows newest lookup find
sought_none xs s = record { looked = refl; found = refl; missing = λ e k l p. absurd (omega arith) }

-- ---- the estimate of the start

pub estimated : (x : Question) (state : PackedState) (gas : ℕ) (have : List ℕ) (r : ℕ) → Stands x state gas have → cost_of r ≡ record { gas = gas; bytes = 0 } → cost_of r ≡ estimate_in (posed x) (whole state)
unfolding keys_of
estimated x state gas have r p f =
    f
    ∙ cost_is x.weights.prices.now x.weights.dup x.asked.cfg.dup_max x.asked.goal.now (keys_of state) gas p.least p.standing.sum
    ∙ rw x.ready.prices_are

-- ---- begin

zero_cost : cost_of 0 ≡ no-cost
unfolding cost_of
zero_cost = refl

abbrev first_entry : Posed → Ask → Entry Cost
first_entry q a = record { f = estimate_in q (whole a.start); g = no-cost; state = whole a.start }

one_stored : (xs : List ℕ) (m : SearchNode) → store m (nodes_of xs 0) ≡ m ∷ []
unfolding rows store
one_stored xs m = refl

one_pushed : (os : List ℕ) (e : Entry Cost) → push gas_bytes e (queue_of os 0) ≡ e ∷ []
unfolding sort push
one_pushed os e = refl

first_work : (q : Posed) (a : Ask) (b : Cost) (h : Bool) → (first_of q a b h).work ≡ record { nodes = first_node a.start ∷ []; queue = first_entry q a ∷ [] }
unfolding begin
first_work q a b h = refl

first_search : (q : Posed) (a : Ask) (b : Cost) (h : Bool) (w : Work Cost ℕ) → w ≡ (first_of q a (cost_of 0) false).work → record { work = w; hand = record { bound = b; have = h; last = None }; count = 0 } ≡ first_of q a b h
unfolding begin
first_search q a b h w e = ap (λ (x : Work Cost ℕ). record { work = x; hand = record { bound = b; have = h; last = None }; count = 0 }) e

-- the start's node as it is stored
abbrev pub node_stored : Ask → SearchNode
node_stored a = record { state = whole a.start; cost = cost_of 0; parent = None }

pub begun : (q : Posed) (a : Ask) (xs os ys gs ps : List ℕ) (f n : ℕ) → cost_of f ≡ estimate_in q (whole a.start) → Stored xs 0 (node_stored a) ys gs n → Pushed os 0 (record { f = f; g = 0; state = a.start }) ps → Begun q a ys gs ps (record { nodes = n; list = 1 })
begun q a xs os ys gs ps f n fe S P =
    let x : nodes_of ys n ≡ first_node a.start ∷ [] = cc (S.stored, one_stored xs (node_stored a), zero_cost) in
    let b : queue_of ps 1 ≡ first_entry q a ∷ [] = cc (P.pushed, one_pushed os (waits (record { f = f; g = 0; state = a.start })), fe, zero_cost) in
    record { work = cc (x, b, first_work q a (cost_of 0) false); kept = S.kept; piled = P.piled; nodes_most = S.most; list_most = omega arith }

-- ---- go

-- the estimate of the start is its f: its g is zero
from_nothing : (q : Posed) (v : ℕ) → gas_bytes.◌⊞◌ gas_bytes.𝟘 (estimate_in q v) ≡ estimate_in q v
unfolding heuristic_of
from_nothing q v =
    let l : (estimate_in q v).gas ≤ 4294967295 = estimate_fits q.prices q.rules.dup_max q.goal (decode 6 21 v) in
    let e : sat 0 (estimate_in q v).gas ≡ (estimate_in q v).gas = omega (arith, sat_exact 0 (estimate_in q v).gas (omega (arith, l))) in
    let f : sat 0 0 ≡ 0 = sat_exact 0 0 (omega arith) in
    rw (e, f)

-- the start waits, and is a window
pub start_waits : (q : Posed) (a : Ask) (xs hs os : List ℕ) (s : Sizes) → Begun q a xs hs os s → IsWindow q (whole a.start) → AllValid gas_bytes (Awaits q) (queue_of os s.list)
start_waits q a xs hs os s B W =
    let e : queue_of os s.list ≡ first_entry q a ∷ [] = ap (λ (w : Work Cost ℕ). w.queue) (B.work ∙ first_work q a (cost_of 0) false) in
    subst (AllValid gas_bytes (Awaits q)) (sym e) (record { window = W; summed = sym (from_nothing q (whole a.start)) }, tt)

pub went : (q : Posed) (a : Ask) (l : Allowances) (b : Bound) (xs hs os : List ℕ) (s : Sizes) (ys gs : List ℕ) (r : Left) → Begun q a xs hs os s → Ran q a l (search_of xs os s (record { bound = b; found = None }) 0) ys gs r → Ran q a l (first_of q a (cost_of b.cost) b.have) ys gs r
went q a l b xs hs os s ys gs r B R = subst (λ (x : Search Cost ℕ). Ran q a l x ys gs r) (first_search q a (cost_of b.cost) b.have (work_of xs os s) B.work) R
