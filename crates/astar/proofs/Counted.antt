-- What an answer tells of its run: at most so many expansions as allowed, and an ending of document 01.
use Rattle.std.specs.Prelude.{◌≡◌, refl, ℕ, ◌<◌, ◌≤◌, leb, eqb}
use Rattle.std.proofs.Common.{sym}
use Rattle.std.proofs.Math.Path.{subst}
use Rattle.std.specs.Prelude.{Option, None, Some}
use mathlib.Core.List.{List, [], ◌∷◌}
use native.Mathlib.Omega.{arith}
use Rattle.astar.specs.Cost.{CostAlgebra, same}
use Rattle.astar.specs.Search.{Problem, Allowance, Ending, drained, cutOff, states, expansions, number, Search, Turn, stop, go, Entry, Node, find, cut, over, visit, drawn, turn_on, turn, without, begin, run, enough}
use Rattle.astar.specs.Turns.{Reach, here, next, Keeps}
use Rattle.astar.proofs.Turns.{of_go}
use Rattle.astar.specs.Tests.{by_cond}
use Rattle.astar.specs.Room.{Bounded}
use Rattle.astar.proofs.Fuel.{Done, search_ends}
use Rattle.astar.specs.Planner.{Found, Answer, given, numbered, first, searched, planned}

-- P holds of the ending by which a turn stops
abbrev OnStop : {C Step : Type 0} → (Ending → Type 0) → Turn C Step → Type 0
OnStop P (stop e) = P e
OnStop P (go t) = Unit {0}

module _ (K : CostAlgebra) (Q : Problem K) (A : Allowance) where
  -- ---- states expanded

  abbrev Counted : Search K.C Q.Step → Type 0
  Counted t = t.count ≤ A.expansions

  turn_counted : (s : Search K.C Q.Step) → Counted s → Keeps K Q A Counted s
  turn_counted s h = record { skips = λ e es q. h; records = λ e es n q f at. h; expands = λ e es n q f room left. left }

  pub reach_counted : {t s : Search K.C Q.Step} → Reach K Q A t s → Counted s → Counted t
  reach_counted (here p) h = subst Counted p h
  reach_counted (next {s} {s'} p r) h = reach_counted r (of_go K Q A Counted s (turn_counted s h) s' p)

  -- ---- endings

  abbrev Named : Ending → Type 0
  Named e = number e ≤ 5

  drawn_named : (s : Search K.C Q.Step) (e : Entry K.C) (o : Option (Node K.C Q.Step)) → OnStop Named (drawn K Q A s e o)
  unfolding drawn visit number
  drawn_named s e None = tt
  drawn_named s e (Some n) =
      by_cond (OnStop Named) (same K e.g n.cost)
      (λ _. by_cond (OnStop Named) (eqb e.state Q.goal) (λ _. tt)
      (λ _. by_cond (OnStop Named) (cut K s.hand e.f) (λ _. omega arith)
      (λ _. by_cond (OnStop Named) (over K Q A s) (λ _. omega arith)
      (λ _. by_cond (OnStop Named) (leb A.expansions s.count) (λ _. omega arith) (λ _. tt)))))
      (λ _. tt)

  queue_named : (s : Search K.C Q.Step) (es : List (Entry K.C)) → OnStop Named (turn_on K Q A s es)
  unfolding turn_on number
  queue_named s [] = omega arith
  queue_named s (e ∷ es) = drawn_named (without K Q es s) e (find e.state s.work.nodes)

  stop_named : (s : Search K.C Q.Step) (e : Ending) → turn K Q A s ≡ stop e → Named e
  unfolding turn
  stop_named s e p = subst (OnStop Named) p (queue_named s s.work.queue)

  -- ---- of the answer

  module _ (priced : Q.Step → K.C) (few dear : ℕ) (B : Bounded K Q few dear) (bound : K.C) (held : Option (Found K.C Q.Step)) where
    -- no more expansions than allowed, and an ending of 0 to 5
    pub record InBounds (r : Answer K.C Q.Step) : Type 0 where
      pub few_expansions : r.expansions ≤ A.expansions
      pub ending_most : r.ending ≤ 5

    search_in_bounds : InBounds (searched K Q priced few bound held A)
    unfolding searched begin
    search_in_bounds =
        let d : Done K Q few dear B A (first K Q priced few bound held) (run K Q A (enough K Q few A) (first K Q priced few bound held)) = search_ends K Q few dear B A bound (given held) in
        record {
          few_expansions = reach_counted d.ends.reached (omega arith);
          ending_most = subst (λ (o : Option Ending). numbered o ≤ 5) (sym d.ended) (stop_named _ d.ending d.ends.stopped);
        }

    pub planned_in_bounds : InBounds (planned K Q priced few bound held A)
    unfolding planned begin
    planned_in_bounds =
        by_cond InBounds (eqb Q.start Q.goal)
        (λ _. record { few_expansions = omega arith; ending_most = omega arith })
        (λ _. by_cond InBounds (eqb A.expansions 0) (λ _. record { few_expansions = omega arith; ending_most = omega arith }) (λ _. search_in_bounds))

  -- ---- ending 0

  module _ (priced : Q.Step → K.C) (few : ℕ) (bound : K.C) (held : Option (Found K.C Q.Step)) where
    -- at ending 0 a plan of no steps, whose cost and ceiling are zero
    abbrev Still : Answer K.C Q.Step → Type 0
    Still r = r.ending ≡ 0 → r.plan ≡ Some (record { origin = 0; steps = []; cost = K.𝟘; ceiling = K.𝟘 })

    -- the run's own endings are 2 to 5
    past_1 : (o : Option Ending) → 1 < numbered o
    unfolding number
    past_1 None = omega arith
    past_1 (Some drained) = omega arith
    past_1 (Some cutOff) = omega arith
    past_1 (Some states) = omega arith
    past_1 (Some expansions) = omega arith

    -- an answer of ending 0 has that plan (document 01, "Endings:")
    pub planned_still : (planned K Q priced few bound held A).ending ≡ 0 → (planned K Q priced few bound held A).plan ≡ Some (record { origin = 0; steps = []; cost = K.𝟘; ceiling = K.𝟘 })
    unfolding planned searched
    planned_still =
        by_cond Still (eqb Q.start Q.goal) (λ _ _. refl)
        (λ _. by_cond Still (eqb A.expansions 0) (λ _ e. absurd (omega arith)) (λ _ e. absurd (omega (arith, past_1 (run K Q A (enough K Q few A) (first K Q priced few bound held)).ending))))
