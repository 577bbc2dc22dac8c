-- What a question says of the estimates, and the offering of all successors.
use Rattle.std.proofs.Common.{◌≡◌, ◌≢◌, refl, sym, ap, ◌∙◌, List, [], ◌∷◌, ◌++◌, map, ℕ, ◌+◌, ◌-◌, ◌≤◌, ◌<◌, arith, length, get_or, take}
use Rattle.std.proofs.lemmas.List.{take_more}
use Rattle.costs.specs.declared.Cost.{Cost}
use Rattle.costs.specs.declared.Step.{Step}
use Rattle.costs.specs.Packed.{cost_of}
use Rattle.replay.specs.Laws.{Ready as CanDo}
use Rattle.replay.specs.Machine.{after}
use Rattle.window.specs.declared.PackedState.{PackedState}
use Rattle.window.specs.State.{Held as Holds, whole}
use Rattle.window.specs.Keys.{keys_of, Window, keys_length, held_keys}
use Rattle.algebra.specs.GasBytes.{gas_bytes}
use Rattle.astar.specs.Pairs.{sat}
use Rattle.astar.specs.Search.{Succ, Work, offer, offers}
use Rattle.astar.specs.Places.{offers_snoc}
use Rattle.successors.specs.Parts.{All, map_append}
use Rattle.successors.specs.Successors.{steps_from}
use Rattle.heap.specs.declared.Entry.{Entry as Waiting}
use Rattle.heuristic.specs.Heuristic.{estimate, heuristic_of}
use Rattle.heuristic.specs.Counts.{Counted}
use Rattle.heuristic.specs.Steady.{Cheap, cheap}
use Rattle.problem.specs.Problem.{edge, problem_of, est_window}
use Rattle.moves.specs.Moves.{Asking, Told}
use Rattle.moves.specs.Ready.{steps_ready}
use Rattle.lists.specs.View.{waits}
use Rattle.offer.specs.Rules.{estimated}
use Rattle.offer.specs.View.{succ_of, hand_of, work_of, HasRoom, Now, offered}
use Rattle.offer.specs.declared.Held.{Held}
use Rattle.offer.specs.declared.Origin.{Origin}
use Rattle.offer.specs.declared.Sizes.{Sizes}
use Rattle.offer.specs.declared.Successor.{Successor}
use Rattle.offer.proofs.Laws.{offer_any}
use Rattle.search.specs.View.{posed, Stands, rules_of, all_offered, IsWindow, Awaits}
use Rattle.search.specs.declared.Question.{Question}

-- ---- estimates

module _ (x : Question) where
  prices_cheap : Cheap x.weights.prices.now
  prices_cheap = rw x.ready.prices_are (cheap x.asked.prices.now x.ready.listed)

  pub asking : Asking x.weights.prices.now x.weights.want.now x.asked.keys.now x.asked.goal.now
  asking = record {
    prices_cheap = prices_cheap;
    wanted = x.ready.wanted;
    goal_keys = x.asked.accepted.bounds.keys;
    short = omega (arith, x.asked.accepted.bounds.goal);
    keys_are = x.asked.accepted.keys;
  }

  -- of a state that is drawn, from its entry
  module _ (e : Waiting ℕ) (A : Awaits (posed x) (waits e)) where
    abbrev left : ℕ
    left = estimate x.asked.prices.now x.asked.cfg.dup_max x.asked.goal.now (keys_of e.state)

    gas_is : (cost_of e.f).gas ≡ sat (cost_of e.g).gas left
    unfolding keys_of heuristic_of
    gas_is = ap (λ (c : Cost). c.gas) A.summed

    module _ (f g : Cost) (fE : f ≡ cost_of e.f) (gE : g ≡ cost_of e.g) where
      pub cost_below : g.gas ≤ f.gas
      unfolding sat
      cost_below = rw (fE, gE) (omega (arith, gas_is))

      pub drawn_is : (have : List ℕ) → Window e.state → Counted have (keys_of e.state) → g.gas ≤ 4294967295 → f.gas ≢ 4294967295 → Stands x e.state (f.gas - g.gas) have
      unfolding sat estimate
      drawn_is have w c low ne =
          let sum : f.gas - g.gas ≡ left = omega (arith, gas_is, ap (λ (c : Cost). c.gas) fE, ap (λ (c : Cost). c.gas) gE) in
          record {
            window = w;
            standing = record {
              prices_cheap = prices_cheap;
              counted = c;
              wanted = x.ready.wanted;
              sum = sum ∙ rw (← x.ready.prices_are, ← x.ready.least);
              size = omega (arith, keys_length e.state, x.asked.accepted.bounds.goal);
            };
            short = omega (arith, x.asked.accepted.bounds.goal);
            least = x.ready.least;
          }

-- ---- offering

-- the successor by a step is the window's
module _ (x : Question) (state : PackedState) where
  succ_is : (step : Step) (r : Successor) → Told x.weights.prices.now x.asked.cfg.dup_max x.asked.goal.now (keys_of state) step r → succ_of r ≡ edge (posed x).prices (keys_of state) step
  succ_is step r T = cc (T.window, T.price, T.by, x.ready.prices_are)

  est_is : (step : Step) (r : Successor) → Told x.weights.prices.now x.asked.cfg.dup_max x.asked.goal.now (keys_of state) step r → cost_of r.est ≡ (problem_of (posed x) []).est (whole r.state)
  est_is step r T = T.est ∙ rw x.ready.prices_are (sym (ap (problem_of (posed x) []).est T.window ∙ est_window (posed x) [] (after step (keys_of state)) T.keys T.fits))

-- what stands of the offering after i steps
abbrev pub Offered : Question → Held → Origin → List Step → Work Cost ℕ → Sizes → ℕ → (xs hs os : List ℕ) → Sizes → Type 0
Offered x held p steps w s i xs hs os at = Now i s (all_offered (posed x) held p (map (edge (posed x).prices (keys_of p.state)) (take i steps)) w) xs hs os at

pub offered_first : (x : Question) (held : Held) (p : Origin) (steps : List Step) (k : ℕ) (xs hs os : List ℕ) (s : Sizes) → HasRoom k xs hs os s → Offered x held p steps (work_of xs os s) s 0 xs hs os s
unfolding offers
offered_first x held p steps k xs hs os s R = record { work = refl; kept = R.kept; piled = R.piled; nodes_most = omega arith; list_most = omega arith }

module _ (x : Question) (held : Held) (p : Origin) (steps : List Step) (w : Work Cost ℕ) (s : Sizes) (i : ℕ) (xs hs os : List ℕ) (at : Sizes) (O : Offered x held p steps w s i xs hs os at) where
  abbrev by_step : Step → Succ Cost ℕ
  by_step = edge (posed x).prices (keys_of p.state)

  -- one step more
  module _ (d : Step) (l : i < length steps) (r : Successor) (T : Told x.weights.prices.now x.asked.cfg.dup_max x.asked.goal.now (keys_of p.state) (get_or steps i d) r) where
    abbrev step : Step
    step = get_or steps i d

    taken : map by_step (take (i + 1) steps) ≡ map by_step (take i steps) ++ (by_step step ∷ [])
    taken = ap (map by_step) (take_more steps i d l) ∙ map_append by_step (take i steps) (step ∷ [])

    offered_is : (v : Work Cost ℕ) → offered held p r v ≡ offer gas_bytes (problem_of (posed x) []) (hand_of held) (whole p.state) (cost_of p.cost) (by_step step) v
    offered_is v =
        ap (λ (c : Cost). offer gas_bytes (estimated c) (hand_of held) (whole p.state) (cost_of p.cost) (succ_of r) v) (est_is x p.state step r T)
        ∙ sym (offer_any (rules_of (posed x)) (problem_of (posed x) []).start (problem_of (posed x) []).goal (hand_of held) (whole p.state) (cost_of p.cost) (succ_of r) v)
        ∙ ap (λ (y : Succ Cost ℕ). offer gas_bytes (problem_of (posed x) []) (hand_of held) (whole p.state) (cost_of p.cost) y v) (succ_is x p.state step r T)

    one_more : all_offered (posed x) held p (map by_step (take (i + 1) steps)) w ≡ offered held p r (work_of xs os at)
    one_more =
        ap (λ (l : List (Succ Cost ℕ)). all_offered (posed x) held p l w) taken
        ∙ offers_snoc gas_bytes (problem_of (posed x) []) (hand_of held) (whole p.state) (cost_of p.cost) (map by_step (take i steps)) (by_step step) w
        ∙ ap (offer gas_bytes (problem_of (posed x) []) (hand_of held) (whole p.state) (cost_of p.cost) (by_step step)) (sym O.work)
        ∙ sym (offered_is (work_of xs os at))

    pub offered_next : (ys gs ps : List ℕ) (n : Sizes) → Now 1 at (offered held p r (work_of xs os at)) ys gs ps n → Offered x held p steps w s (i + 1) ys gs ps n
    offered_next ys gs ps n N = record { work = N.work ∙ sym one_more; kept = N.kept; piled = N.piled; nodes_most = omega (arith, N.nodes_most, O.nodes_most); list_most = omega (arith, N.list_most, O.list_most) }

-- ---- a window's state

module _ (x : Question) (state : PackedState) where
  pub window_held : IsWindow (posed x) (whole state) → Window state
  window_held W =
      let h : Holds 6 state W.keys = record { keys = W.below; value = W.packed } in
      rw (held_keys state W.keys h (omega (arith, W.fits, x.asked.accepted.bounds.window))) h

  pub all_can : IsWindow (posed x) (whole state) → (last : ℕ) (ss : List Step) → ss ≡ steps_from (posed x) (keys_of state) last → All (λ s. CanDo s (length (keys_of state))) ss
  all_can W last ss e = rw e (steps_ready (posed x) x.asked.accepted.bounds (keys_of state) (window_held W).keys last)
