-- Demand 2, the plan's part: a plan that is given replays from start to goal, within reaches and window, and is marked 0 at its own ceiling.
use Rattle.std.specs.Prelude.{ℕ, suc, ◌≤◌, max, Bool, true, false, ◌≡◌, refl, T, eqb}
use mathlib.Core.List.{List, [], ◌∷◌}
use Rattle.std.proofs.Common.{inl, inr, sym, ◌∙◌, le_refl, eqb→eq}
use Rattle.std.proofs.Math.Logic.{⊎_elim}
use Rattle.std.specs.Prelude.{Option, None, Some}
use Rattle.astar.specs.Maybe.{some_injective}
use Rattle.std.proofs.Math.Path.{ap, subst}
use native.Mathlib.Omega.{arith}
use Rattle.std.proofs.Math.ListN.{length, length-map}
use Rattle.costs.specs.Choice.{◌if◌otherwise◌}
use Rattle.costs.specs.Cost.{plus}
use Rattle.costs.specs.Price.{cost_from, cost_for_steps}
use Rattle.costs.specs.declared.Cost.{Cost}
use Rattle.replay.specs.Machine.{ends, ran_on}
use Rattle.window.specs.Pack.{pack}
use Rattle.window.specs.Laws.{pack_inj}
use Rattle.algebra.specs.GasBytes.{gas_bytes, sum_is, domain_fits}
use Rattle.astar.specs.Search.{Problem, Allowance, Search, Node, enough, run, read_back}
use Rattle.astar.specs.Turns.{Reach, here}
use Rattle.astar.specs.Tests.{by_cond}
use Rattle.astar.proofs.Fuel.{search_ends}
use Rattle.astar.specs.Room.{Bounded}
use Rattle.astar.proofs.Plans.{Route, plan_source}
use Rattle.astar.specs.Planner.{Found, Answer as Answered, given, sum_steps, read_at, plan_at, plan_of, first, searched, planned}
use Rattle.problem.specs.Problem.{problem_of, bounded}
use Rattle.problem.specs.Replays.{walk_replays}
use Rattle.incumbent.specs.Hand.{Held}
use Rattle.incumbent.specs.Theorems as builder
use Rattle.planner.specs.Refusal.{Asked, Lent}
use Rattle.planner.specs.Planned.{question_of, listed, plan_held, before, answered}
use Rattle.planner.specs.Accepted.{Accepted, bounds, keys_below, start_window, goal_window}
use Rattle.planner.specs.Steady.{steady_answers}

-- a plan leads from start to goal, costs what its steps are listed at, and has a place for each step
pub record Sound (a : Asked) (p : Found Cost ℕ) : Type 0 where
  pub replays : ran_on a.rules 0 p.steps a.start ≡ ends a.goal
  pub cost_is : p.cost ≡ cost_for_steps a.prices p.steps
  pub few : length p.steps ≤ max 128 a.allowance.expansions

-- the sum of listed prices, onto a cost of two u32 numbers, is the cost of the steps
plus_gas : (c d : Cost) → (plus c d).gas ≤ 4294967295
unfolding plus
plus_gas c d = omega arith

plus_bytes : (c d : Cost) → (plus c d).bytes ≤ 4294967295
unfolding plus
plus_bytes c d = omega arith

pub sum_steps_lem : (prices : List ℕ) (c : Cost) (bs : List ℕ) → c.gas ≤ 4294967295 → c.bytes ≤ 4294967295 → sum_steps gas_bytes (listed prices) c bs ≡ cost_from prices c bs
sum_steps_lem prices c [] g h = refl
sum_steps_lem prices c (b ∷ bs) g h =
    ap (λ (d : Cost). sum_steps gas_bytes (listed prices) d bs) (sum_is c (listed prices b) g h)
    ∙ sum_steps_lem prices (plus c (listed prices b)) bs (plus_gas c (listed prices b)) (plus_bytes c (listed prices b))

module _ (a : Asked) (l : Lent) (ok : Accepted a l) where
  abbrev Q : Problem gas_bytes
  Q = problem_of (question_of a) a.start

  abbrev A : Allowance
  A = a.allowance

  abbrev held : Option (Found Cost ℕ)
  held = plan_held (before a)

  abbrev s₀ : Search Cost ℕ
  s₀ = first gas_bytes Q (listed a.prices) 50 (before a).bound held

  limited : Bounded gas_bytes Q 50 30000
  limited = bounded (question_of a) a.start (bounds a l ok) ok.prices

  -- the builders' plan
  held_if : (h : Held) (p : Found Cost ℕ) (b : Bool) → eqb h.origin 0 ≡ b → builder.Sound a.prices a.rules a.start a.goal h →
      (None if b otherwise Some (record { origin = h.origin; steps = h.plan; cost = h.bound; ceiling = h.bound })) ≡ Some p → Sound a p
  held_if h p true e s f = let z : ◌≡◌ {A = ℕ} 0 1 = cc in absurd (omega arith)
  held_if h p false e (inl s) f = let z : ◌≡◌ {A = Bool} true false = sym (ap (λ (n : ℕ). eqb n 0) s.origin) ∙ e in absurd (let y : ◌≡◌ {A = ℕ} 0 1 = cc in omega arith)
  held_if h p false e (inr s) f =
      subst (Sound a) (some_injective (record { origin = h.origin; steps = h.plan; cost = h.bound; ceiling = h.bound }) p f)
      (record { replays = s.leads.replays; cost_is = s.bound; few = omega (arith, s.leads.few) })

  held_sound : (p : Found Cost ℕ) → held ≡ Some p → Sound a p
  held_sound p f =
      held_if (before a) p (eqb (before a).origin 0) refl
      (builder.in_hand_sound a.prices a.rules a.start a.goal (start_window a l ok) (goal_window a l ok) ok.window ok.kinds) f

  -- the cost of a plan read back is the sum of its steps
  read_cost : (g : Cost) (o : Option (List ℕ)) (p : Found Cost ℕ) → read_at gas_bytes Q (listed a.prices) 50 (before a).bound held g o ≡ Some p → p.cost ≡ sum_steps gas_bytes (listed a.prices) gas_bytes.𝟘 p.steps
  read_cost g None p f = let z : ◌≡◌ {A = ℕ} 0 1 = cc in absurd (omega arith)
  read_cost g (Some bs) p f =
      subst (λ (x : Found Cost ℕ). x.cost ≡ sum_steps gas_bytes (listed a.prices) gas_bytes.𝟘 x.steps)
      (some_injective (record { origin = 3; steps = bs; cost = sum_steps gas_bytes (listed a.prices) gas_bytes.𝟘 bs; ceiling = g }) p f) refl

  last_cost : (o : Option Cost) (k : ℕ) (ns : List (Node Cost ℕ)) (p : Found Cost ℕ) → plan_at gas_bytes Q (listed a.prices) 50 (before a).bound held o k ns ≡ Some p → p.cost ≡ cost_for_steps a.prices p.steps
  last_cost None k ns p f = (held_sound p f).cost_is
  last_cost (Some g) k ns p f = read_cost g (read_back gas_bytes Q (suc k) ns (pack 6 a.goal) []) p f ∙ sum_steps_lem a.prices gas_bytes.𝟘 p.steps (omega arith) (omega arith)

  reached_sound : (s : Search Cost ℕ) → Reach gas_bytes Q A s s₀ → (p : Found Cost ℕ) → plan_of gas_bytes Q (listed a.prices) 50 (before a).bound held s ≡ Some p → Sound a p
  unfolding plan_of
  reached_sound s r p f =
      ⊎_elim (held_sound p)
      (λ (R : Route gas_bytes Q (listed a.prices) 50 30000 limited (before a).bound held A (domain_fits A.expansions ok.expansions) p).
      record {
        replays = ap (λ (bs : List ℕ). ran_on a.rules 0 bs a.start) R.are_steps ∙ walk_replays (question_of a) (bounds a l ok) a.start R.route (keys_below a.start ok.start_keys) ok.start_fits R.walk;
        cost_is = last_cost s.hand.last s.count s.work.nodes p f;
        few = let n : length p.steps ≡ length R.route = ap length R.are_steps ∙ length-map R.route (λ x. x.by) in omega (arith, n, R.short);
      })
      (plan_source gas_bytes Q (listed a.prices) 50 30000 limited (before a).bound held A (domain_fits A.expansions ok.expansions) s r p f)

  -- the start is the goal
  none_needed : T (eqb (pack 6 a.start) (pack 6 a.goal)) → (p : Found Cost ℕ) → ◌≡◌ {A = Option (Found Cost ℕ)} (Some (record { origin = 0; steps = []; cost = gas_bytes.𝟘; ceiling = gas_bytes.𝟘 })) (Some p) → Sound a p
  unfolding ran_on
  none_needed t p f =
      let e : a.start ≡ a.goal = pack_inj 6 (omega arith) a.start a.goal (keys_below a.start ok.start_keys) (keys_below a.goal ok.goal_keys) (eqb→eq (pack 6 a.start) (pack 6 a.goal) t) in
      subst (Sound a) (some_injective (record { origin = 0; steps = []; cost = gas_bytes.𝟘; ceiling = gas_bytes.𝟘 }) p f)
      (record { replays = ap ends e; cost_is = refl; few = omega arith })

  pub plan_sound : (p : Found Cost ℕ) → (answered a).plan ≡ Some p → Sound a p
  unfolding answered planned searched
  plan_sound =
      by_cond (λ (r : Answered Cost ℕ). (p : Found Cost ℕ) → r.plan ≡ Some p → Sound a p) (eqb (pack 6 a.start) (pack 6 a.goal)) none_needed
      (λ _. by_cond (λ (r : Answered Cost ℕ). (p : Found Cost ℕ) → r.plan ≡ Some p → Sound a p) (eqb A.expansions 0)
      (λ _. reached_sound s₀ (here refl))
      (λ _. let d = search_ends gas_bytes Q 50 30000 limited A (before a).bound (given held) in
      reached_sound (run gas_bytes Q A (enough gas_bytes Q 50 A) s₀).final d.ends.reached))

  -- a plan costs no more than its ceiling
  pub plan_within : (p : Found Cost ℕ) → (answered a).plan ≡ Some p → T (gas_bytes.le p.cost p.ceiling)
  plan_within p f = (steady_answers a A A l (record { more_expansions = le_refl _; more_without = le_refl _; more_with = le_refl _ }) ok).within_a p f
