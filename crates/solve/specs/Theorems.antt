-- What holds of every run of the search of a question, whatever its prices are within the list's limits, 0 among them.
use Rattle.std.specs.Prelude.{◌≡◌, refl, Bool, false, ℕ, suc, ◌+◌, ◌*◌, ◌≤◌, max, T, length}
use Rattle.std.proofs.Common.{ap, subst, arith}
use mathlib.Core.List.{List, [], ◌∷◌, Memᴰ}
use Rattle.std.specs.Prelude.{Option, Some}
use Rattle.costs.specs.declared.Cost.{Cost}
use Rattle.costs.specs.Cost.{none as no-cost}
use Rattle.costs.specs.Price.{cost_for_steps}
use Rattle.costs.specs.Table.{prices_fault}
use Rattle.window.specs.Pack.{pack}
use Rattle.window.specs.Decode.{decode}
use Rattle.replay.specs.Machine.{ends, ran_on}
use Rattle.algebra.specs.GasBytes.{gas_bytes, domain_fits}
use Rattle.astar.specs.Pairs.{sat_exact}
use Rattle.astar.specs.Search.{Problem, Succ, Allowance, Search, Entry, Node, find, begin, enough, run, read_back}
use Rattle.astar.specs.Turns.{Reach}
use Rattle.astar.specs.Room.{Bounded, Within}
use Rattle.astar.proofs.Room.{reach_within, begin_within}
use Rattle.astar.proofs.Fuel.{Done, search_ends}
use Rattle.astar.specs.Sound.{Good}
use Rattle.astar.proofs.Hold.{reach_good, begin_good}
use Rattle.astar.specs.Back.{Plan, reads_back}
use Rattle.astar.specs.Walk.{Distinct, tos, steps}
use Rattle.astar.specs.Valid.{AllValid}
use Rattle.astar.proofs.Valid.{reach_valid, begin_valid}
use Rattle.successors.specs.Successors.{Question}
use Rattle.successors.specs.Limits.{Bounds}
use Rattle.heuristic.specs.Heuristic.{heuristic_of, estimate, least_dup}
use Rattle.heuristic.specs.Steady.{cheap, small}
use Rattle.problem.specs.Problem.{problem_of, bounded, decode_length}
use Rattle.problem.specs.Replays.{Led, successor_led, walk_replays, walk_costs}
use Rattle.search.specs.View.{IsWindow}
use Rattle.solve.specs.View.{StartFits}

-- a plain sum, in which nothing stops
abbrev pub plainly : Cost → Cost → Cost
plainly a b = record { gas = a.gas + b.gas; bytes = a.bytes + b.bytes }

-- The plan that is read back of a goal recorded at g, by the steps bs.
pub record ReadsBack (q : Question) (start : List ℕ) (s : Search Cost ℕ) (g : Cost) : Type 0 where
  pub route : List (Succ Cost ℕ)
  -- the read-back ends, and gives the steps of the route
  pub read : read_back gas_bytes (problem_of q start) (suc s.count) s.work.nodes (pack 6 q.goal) [] ≡ Some (steps gas_bytes (problem_of q start) route)
  -- they replay from the start to the goal
  pub replays : ran_on q.rules 0 (steps gas_bytes (problem_of q start) route) start ≡ ends q.goal
  -- through pairwise distinct states
  pub distinct : Distinct (pack 6 start ∷ tos gas_bytes (problem_of q start) route)
  -- they are no more than the expansions made
  pub short : length (steps gas_bytes (problem_of q start) route) ≤ s.count
  -- and cost no more than the g recorded
  pub cheap : T (gas_bytes.le (cost_for_steps q.prices (steps gas_bytes (problem_of q start) route)) g)

steps_length : (q : Question) (start : List ℕ) (xs : List (Succ Cost ℕ)) → length (steps gas_bytes (problem_of q start) xs) ≡ length xs
steps_length q start [] = refl
steps_length q start (x ∷ xs) = ap suc (steps_length q start xs)

-- an accepted question, a start window, and allowances of the domain
module _ (q : Question) (b : Bounds q) (f : prices_fault q.prices ≡ false) (start : List ℕ) (S : StartFits q start) (A : Allowance) (few : A.expansions ≤ 65536) (bound : Cost) (have : Bool) where
  abbrev Q : Problem gas_bytes
  Q = problem_of q start

  abbrev first : Search Cost ℕ
  first = begin gas_bytes Q bound have

  abbrev B : Bounded gas_bytes Q 50 30000
  B = bounded q start b f

  -- the run ends, by one of the endings 2 to 5, at a search that is reached from the first
  pub ends_somewhere : Done gas_bytes Q 50 30000 B A first (run gas_bytes Q A (enough gas_bytes Q 50 A) first)
  ends_somewhere = search_ends gas_bytes Q 50 30000 B A bound have

  -- Every search s that the run reaches:
  module _ (s : Search Cost ℕ) (R : Reach gas_bytes Q A s first) where
    good : Good gas_bytes Q 30000 A s
    good = reach_good gas_bytes Q 50 30000 B A (domain_fits A.expansions few) R (begin_good gas_bytes Q 50 30000 B A (domain_fits A.expansions few) bound have)

    -- its expansions are within the allowance
    pub expansions_allowed : s.count ≤ A.expansions
    expansions_allowed = good.allowed

    -- nodes and open entries are no more than the larger state allowance and 50
    pub lists_within : Within (max A.states_without A.states_with + 50) s
    lists_within = reach_within gas_bytes Q 50 30000 B A R (begin_within gas_bytes Q 50 30000 B A bound have (omega arith))

    -- every state that waits is a window of the question
    pub waits_windows : AllValid gas_bytes (λ e. IsWindow q e.state) s.work.queue
    waits_windows = reach_valid gas_bytes (λ e. IsWindow q e.state) Q led A R (begin_valid gas_bytes (λ e. IsWindow q e.state) Q led bound have (record { keys = start; packed = refl; below = S.keys; fits = S.fits }))
      where
        led : (e : Entry Cost) (g : Cost) (p : Option ℕ) (x : Succ Cost ℕ) → IsWindow q e.state → Memᴰ x (Q.after e.state p) → IsWindow q x.to
        led e g p x W m =
            let r : Led q b start W.keys x = successor_led q b start W.keys W.below W.fits p x (subst (λ (u : ℕ). Memᴰ x (Q.after u p)) W.packed m) in
            record { keys = r.window; packed = r.packed; below = r.keys; fits = r.fits }

    -- nothing saturates: the g of a successor is the plain sum
    module _ (v : ℕ) (n : Node Cost ℕ) (N : find v s.work.nodes ≡ Some n) (u : ℕ) (p : Option ℕ) (x : Succ Cost ℕ) (m : Memᴰ x (Q.after u p)) where
      cost_small : gas_bytes.size n.cost ≤ 30000 * 65536
      cost_small =
          let z : gas_bytes.size n.cost ≤ 30000 * s.count = good.sound.small v n N in
          omega (arith, expansions_allowed)

      price_small : gas_bytes.size x.price ≤ 30000
      price_small = B.prices u p x m

      pub g_plain : gas_bytes.◌⊞◌ n.cost x.price ≡ plainly n.cost x.price
      g_plain =
          let c = cost_small in
          let d = price_small in
          let i : n.cost.gas + x.price.gas ≤ 4294967295 = omega arith in
          let j : n.cost.bytes + x.price.bytes ≤ 4294967295 = omega arith in
          rw (sat_exact n.cost.gas x.price.gas i, sat_exact n.cost.bytes x.price.bytes j)

      -- and so is its f, with the estimate of any state
      est_small : (w : ℕ) → gas_bytes.size (Q.est w) ≤ 1260000
      unfolding heuristic_of estimate
      est_small w = omega (arith, small q.prices (cheap q.prices f) (least_dup q.prices q.rules.dup_max) q.goal (decode 6 21 w) (omega (arith, decode_length 21 w, b.goal)))

      pub f_plain : (w : ℕ) → gas_bytes.◌⊞◌ (plainly n.cost x.price) (Q.est w) ≡ plainly (plainly n.cost x.price) (Q.est w)
      f_plain w =
          let c = cost_small in
          let d = price_small in
          let e = est_small w in
          let i : n.cost.gas + x.price.gas + (Q.est w).gas ≤ 4294967295 = omega arith in
          let j : n.cost.bytes + x.price.bytes + (Q.est w).bytes ≤ 4294967295 = omega arith in
          rw (sat_exact (n.cost.gas + x.price.gas) (Q.est w).gas i, sat_exact (n.cost.bytes + x.price.bytes) (Q.est w).bytes j)

    -- the goal recorded last is read back
    pub reads : (g : Cost) → s.hand.last ≡ Some g → ReadsBack q start s g
    reads g h =
        let P : Plan gas_bytes Q s g = reads_back gas_bytes Q 50 30000 B A (domain_fits A.expansions few) s good g h in
        record {
          route = P.route;
          read = P.read;
          replays = walk_replays q b start P.route S.keys S.fits P.walk;
          distinct = P.distinct;
          short = rw (steps_length q start P.route) P.short;
          cheap = rw (← (walk_costs q b start P.route (pack 6 start) (pack 6 q.goal) no-cost (omega arith) (omega arith) P.walk)) P.cheap;
        }
