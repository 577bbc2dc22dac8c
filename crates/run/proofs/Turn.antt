-- A pass of the loop is a turn.
use Rattle.std.proofs.Common.{◌≡◌, ◌≢◌, refl, sym, ap, ap₂, subst, ◌∙◌, Bool, true, false, ◌||◌, cond, Option, None, Some, List, [], ℕ, ◌+◌, ◌-◌, ◌≤◌, ◌<◌, add-one, arith, ltb, eqb}
use Rattle.std.specs.Option.{option_map}
use Rattle.std.proofs.lemmas.Bool.{le-leb, lt-leb}
use mathlib.Core.List.{Memᴰ}
use Rattle.costs.specs.declared.Cost.{Cost}
use Rattle.costs.specs.Packed.{cost_of}
use Rattle.window.specs.declared.PackedState.{PackedState}
use Rattle.window.specs.State.{whole}
use Rattle.window.specs.Keys.{keys_of}
use Rattle.algebra.specs.GasBytes.{gas_bytes}
use Rattle.astar.specs.Cost.{same}
use Rattle.astar.specs.Search.{Problem, Succ, Allowance, Entry, Work, Hand, Search, find, entry_of, step_of, cut, record_goal, offers, over, without, turn, stop, go}
use Rattle.astar.specs.Turns.{Reach, here}
use Rattle.astar.specs.Rows.{length_rows}
use Rattle.astar.specs.Valid.{AllValid}
use Rattle.astar.proofs.Valid.{go_valid}
use Rattle.astar.proofs.Branch.{turn_drained, turn_lost, turn_stale, turn_goal, turn_cut, turn_states, turn_expansions, turn_expands, reach_on}
use Rattle.heap.specs.Heap.{sort}
use Rattle.heap.specs.declared.Entry.{Entry as Waiting}
use Rattle.successors.specs.Successors.{Question}
use Rattle.successors.specs.Limits.{Bounds}
use Rattle.problem.specs.Problem.{edges_from, depth_of_code, problem_of}
use Rattle.problem.specs.Replays.{Led, successor_led}
use Rattle.lists.specs.View.{parent_is, node_is, node_at, nodes_of, queue_of, waits, Kept, Piled, Taken}
use Rattle.lists.specs.declared.Node.{Node}
use Rattle.lists.proofs.Queue.{queue_length}
use Rattle.offer.specs.View.{hand_of, work_of, Now}
use Rattle.offer.specs.declared.Held.{Held}
use Rattle.offer.specs.declared.Sizes.{Sizes}
use Rattle.search.specs.View.{rules_of, all_offered, IsWindow, Awaits, origin_of}
use Rattle.run.specs.Ending.{ended_by}
use Rattle.run.specs.View.{problem_for, allowance, search_of, Ran}
use Rattle.run.specs.declared.Allowances.{Allowances}
use Rattle.run.specs.declared.Ask.{Ask}
use Rattle.run.specs.declared.Ending.{Ending}
use Rattle.run.specs.declared.Ending.TheVariants.{Drained, CutOff, States, Expansions}
use Rattle.run.proofs.Laws.{same_true, same_false, offers_any}

-- every successor of a window is a window
window_led : (q : Question) → Bounds q → (v : ℕ) (p : Option ℕ) (x : Succ Cost ℕ) → IsWindow q v → Memᴰ x ((problem_of q []).after v p) → IsWindow q x.to
window_led q b v p x W m =
    let r : Led q b [] W.keys x = successor_led q b [] W.keys W.below W.fits p x (subst (λ (u : ℕ). Memᴰ x ((problem_of q []).after u p)) W.packed m) in
    record { keys = r.window; packed = r.packed; below = r.keys; fits = r.fits }

-- every successor's entry is of a window, with its estimate in its f
entry_led : (q : Question) (a : Ask) → Bounds q → (e : Entry Cost) (g : Cost) (p : Option ℕ) (x : Succ Cost ℕ) → Awaits q e → Memᴰ x ((problem_for q a).after e.state p) → Awaits q (entry_of gas_bytes (problem_for q a) g x)
entry_led q a b e g p x W m = record { window = window_led q b e.state p x W.window m; summed = refl }

after_is : (q : Question) (s : PackedState) (o : Option ℕ) → (problem_of q []).after (whole s) o ≡ edges_from q (keys_of s) (depth_of_code o)
unfolding keys_of
after_is q s o = refl

-- What holds at the loop: the lists are in order, and the search that they stand for was reached.
pub record Pass (q : Question) (a : Ask) (l : Allowances) (s₀ : Search Cost ℕ) (xs hs os : List ℕ) (at : Sizes) (h : Held) (k : ℕ) : Type 0 where
  pub kept : Kept xs hs at.nodes
  pub piled : Piled os at.list
  pub few : k ≤ l.max_expansions
  pub waiting : AllValid gas_bytes (Awaits q) (queue_of os at.list)
  pub reach : Reach gas_bytes (problem_for q a) (allowance l) (search_of xs os at h k) s₀

pub pass_first : (q : Question) (a : Ask) (l : Allowances) (xs hs os : List ℕ) (at : Sizes) (h : Held) → Kept xs hs at.nodes → Piled os at.list → AllValid gas_bytes (Awaits q) (queue_of os at.list) → Pass q a l (search_of xs os at h 0) xs hs os at h 0
pass_first q a l xs hs os at h K P W = record { kept = K; piled = P; few = omega arith; waiting = W; reach = here refl }

module _ {q : Question} (b : Bounds q) {a : Ask} {l : Allowances} {s₀ : Search Cost ℕ} {xs hs os : List ℕ} {at : Sizes} {h : Held} {k : ℕ} (P : Pass q a l s₀ xs hs os at h k) where
  abbrev Q : Problem gas_bytes
  Q = problem_for q a

  abbrev A : Allowance
  A = allowance l

  abbrev s : Search Cost ℕ
  s = search_of xs os at h k

  still : (t : Search Cost ℕ) → turn gas_bytes Q A s ≡ go t → AllValid gas_bytes (Awaits q) t.work.queue
  still t e = go_valid gas_bytes (Awaits q) Q (entry_led q a b) A s t e P.waiting

  -- the run ends
  ran : (x : Ending) → turn gas_bytes Q A s ≡ stop (ended_by x) → Ran q a l s₀ xs hs (record { held = h; nodes = at.nodes; count = k; ending = x })
  ran x t = record { last = s; ends = record { reached = P.reach; stopped = t }; nodes_are = refl; hand_is = refl; count_is = refl; kept = P.kept; few = P.few }

  -- no entry is left
  pub ended_drained : at.list ≡ 0 → Ran q a l s₀ xs hs (record { held = h; nodes = at.nodes; count = k; ending = Drained })
  unfolding sort
  ended_drained e = ran Drained (turn_drained gas_bytes Q A s (ap (queue_of os) e))

  module _ {e : Waiting ℕ} {ps : List ℕ} (T : Taken os at.list e ps (at.list - 1)) where
    abbrev left : Sizes
    left = record { nodes = at.nodes; list = at.list - 1 }

    abbrev es : List (Entry Cost)
    es = queue_of ps (at.list - 1)

    onward : (h' : Held) → turn gas_bytes Q A s ≡ go (search_of xs ps left h' k) → Pass q a l s₀ xs hs ps left h' k
    onward h' t = record { kept = P.kept; piled = T.piled; few = P.few; waiting = still (search_of xs ps left h' k) t; reach = reach_on gas_bytes Q A P.reach t }

    module _ {kn : Option Node} (kE : option_map node_is kn ≡ find (whole e.state) (nodes_of xs at.nodes)) where
      pub passed_lost : kn ≡ None → Pass q a l s₀ xs hs ps left h k
      passed_lost is = onward h (turn_lost gas_bytes Q A s (waits e) es T.taken (sym kE ∙ ap (option_map node_is) is))

      module _ {v : Node} (is : kn ≡ Some v) where
        f : find (whole e.state) (nodes_of xs at.nodes) ≡ Some (node_is v)
        f = sym kE ∙ ap (option_map node_is) is

        pub passed_stale : v.cost ≢ e.g → Pass q a l s₀ xs hs ps left h k
        passed_stale ne = onward h (turn_stale gas_bytes Q A s (waits e) es T.taken (node_is v) f (same_false e.g v.cost (λ p. ne (sym p))))

        module _ (c : v.cost ≡ e.g) {t : Bool} (tE : t ≡ eqb (whole e.state) (whole a.goal)) where
          fresh : same gas_bytes (waits e).g (node_is v).cost ≡ true
          fresh = same_true e.g v.cost (sym c)

          pub passed_goal : t ≡ true → {h' : Held} → hand_of h' ≡ record_goal gas_bytes (cost_of e.g) (hand_of h) → Pass q a l s₀ xs hs ps left h' k
          passed_goal y {h'} r =
              onward h'
              (turn_goal gas_bytes Q A s (waits e) es T.taken (node_is v) f fresh (sym tE ∙ y)
              ∙ ap (λ (x : Hand Cost). go (record { work = record { nodes = nodes_of xs at.nodes; queue = es }; hand = x; count = k })) (ap (λ (x : ℕ). record_goal gas_bytes (cost_of x) (hand_of h)) c ∙ sym r))

          module _ (n : t ≡ false) {u : Bool} (uE : u ≡ cut gas_bytes (hand_of h) (cost_of e.f)) where
            no_goal : eqb (waits e).state Q.goal ≡ false
            no_goal = sym tE ∙ n

            pub ended_cut : u ≡ true → Ran q a l s₀ xs hs (record { held = h; nodes = at.nodes; count = k; ending = CutOff })
            ended_cut y = ran CutOff (turn_cut gas_bytes Q A s (waits e) es T.taken (node_is v) f fresh no_goal (sym uE ∙ y))

            module _ (m : u ≡ false) {room : ℕ} (roomE : room ≡ cond h.bound.have l.states_with l.states_without) {o : Bool} (oE : o ≡ (ltb room at.nodes || ltb room (at.list - 1))) where
              over_is : over gas_bytes Q A (without gas_bytes Q es s) ≡ o
              unfolding over
              over_is = rw (← roomE, length_rows at.nodes (node_at xs), queue_length ps (at.list - 1)) (sym oE)

              pub ended_states : o ≡ true → Ran q a l s₀ xs hs (record { held = h; nodes = at.nodes; count = k; ending = States })
              ended_states y = ran States (turn_states gas_bytes Q A s (waits e) es T.taken (node_is v) f fresh no_goal (sym uE ∙ m) (over_is ∙ y))

              module _ (w : o ≡ false) where
                pub ended_expansions : l.max_expansions ≤ k → Ran q a l s₀ xs hs (record { held = h; nodes = at.nodes; count = k; ending = Expansions })
                ended_expansions y = ran Expansions (turn_expansions gas_bytes Q A s (waits e) es T.taken (node_is v) f fresh no_goal (sym uE ∙ m) (over_is ∙ w) (le-leb l.max_expansions k y))

                abbrev edges : List (Succ Cost ℕ)
                edges = edges_from q (keys_of e.state) (depth_of_code (step_of (parent_is v.parent)))

                pub passed_expanded :
                    k < l.max_expansions → {ys gs zs : List ℕ} {r : Sizes} →
                    Now 50 left (all_offered q h (origin_of e) edges (work_of xs ps left)) ys gs zs r →
                    Pass q a l s₀ ys gs zs r h (k + 1)
                passed_expanded y {ys} {gs} {zs} {r} N = record {
                  kept = N.kept;
                  piled = N.piled;
                  few = omega arith;
                  waiting = still (search_of ys zs r h (k + 1)) turned;
                  reach = reach_on gas_bytes Q A P.reach turned;
                }
                  where
                    w₁ : Work Cost ℕ
                    w₁ = work_of xs ps left

                    to_rule : offers gas_bytes Q (hand_of h) (whole e.state) (cost_of v.cost) (Q.after (whole e.state) (step_of (parent_is v.parent))) w₁
                        ≡ offers gas_bytes Q (hand_of h) (whole e.state) (cost_of e.g) edges w₁
                    to_rule = ap₂ (λ (x : ℕ) (xs : List (Succ Cost ℕ)). offers gas_bytes Q (hand_of h) (whole e.state) (cost_of x) xs w₁) c (after_is q e.state (step_of (parent_is v.parent)))

                    work_is : offers gas_bytes Q (hand_of h) (whole e.state) (cost_of v.cost) (Q.after (whole e.state) (step_of (parent_is v.parent))) w₁ ≡ work_of ys zs r
                    work_is =
                        to_rule
                        ∙ offers_any (rules_of q) (whole a.start) (whole a.goal) (problem_of q []).start (problem_of q []).goal (hand_of h) (whole e.state) (cost_of e.g) edges w₁
                        ∙ sym N.work

                    turned : turn gas_bytes Q A s ≡ go (search_of ys zs r h (k + 1))
                    turned =
                        turn_expands gas_bytes Q A s (waits e) es T.taken (node_is v) f fresh no_goal (sym uE ∙ m) (over_is ∙ w) (lt-leb l.max_expansions k y)
                        ∙ ap₂ (λ (w : Work Cost ℕ) (m : ℕ). go (record { work = w; hand = hand_of h; count = m })) work_is (sym (add-one k))
