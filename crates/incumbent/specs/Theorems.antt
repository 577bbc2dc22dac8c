-- What the plan in hand is worth.
use Rattle.std.specs.Prelude.{ℕ, ◌≤◌, ◌<◌, false, List, [], ◌⊎◌, ◌≡◌, length}
use Rattle.std.proofs.Common.{inl, inr, ap}
use Rattle.std.specs.Prelude.{Option, None, Some}
use Rattle.std.proofs.Math.Path.{refl}
use native.Mathlib.Omega.{arith}
use Rattle.costs.specs.Cost.{no_more}
use Rattle.costs.specs.Price.{cost_for_steps}
use Rattle.costs.specs.Table.{kinds_fault}
use Rattle.replay.specs.Machine.{Rules, ran_on, ends}
use Rattle.star_swap.specs.Tests.{by_test}
use Rattle.star_swap.specs.Check.{Window}
use Rattle.builders.specs.Draft.{Draft, steps_of}
use Rattle.builders.specs.Tail.{not_tail, delete_tail, tail_plan}
use Rattle.builders.specs.TailLaws.{IsTail, delete_tail_replays}
use Rattle.builders.specs.TailCode.{tail_fits}
use Rattle.builders.specs.Dup.{dup_and_star}
use Rattle.builders.specs.DupLaws.{If, Plan}
use Rattle.builders.specs.Theorems.{delete_tail_few, dup_and_star_plan}
use Rattle.incumbent.specs.Flush.{flush_cost}
use Rattle.incumbent.specs.Hand.{Held, offered, in_hand}

module _ (prices : List ℕ) (q : Rules) (start goal : List ℕ) where
  -- no plan in hand: origin 0, no steps, and the flush cost as the bound
  pub record Empty (h : Held) : Type 0 where
    pub origin : h.origin ≡ 0
    pub plan : h.plan ≡ []
    pub bound : h.bound ≡ flush_cost prices start goal

  -- steps that lead from the start to the goal, and fit the least step list
  pub record Leads (plan : List ℕ) : Type 0 where
    pub replays : ran_on q 0 plan start ≡ ends goal
    pub few : length plan ≤ 128

  -- a builder's plan in hand: its origin, steps that lead to the goal, and their cost as the bound
  pub record Full (h : Held) : Type 0 where
    pub origin : (0 < h.origin) × (h.origin ≤ 2)
    pub leads : Leads h.plan
    pub bound : h.bound ≡ cost_for_steps prices h.plan

  abbrev pub Sound : Held → Type 0
  Sound h = Empty h ⊎ Full h

  -- what a builder gives, if anything
  abbrev pub Given : Option (List ℕ) → Type 0
  Given None = Unit {0}
  Given (Some plan) = Leads plan

  offered_sound : (origin : ℕ) → (0 < origin) × (origin ≤ 2) → (o : Option (List ℕ)) (h : Held) → Given o → Sound h → Sound (offered prices origin o h)
  offered_sound origin n None h l s = s
  offered_sound origin n (Some plan) h l s = by_test Sound (no_more (cost_for_steps prices plan) h.bound) _ _ (λ e. inr (record { origin = n; leads = l; bound = refl })) (λ e. s)

  given_of : (o : Option Draft) → If (Plan q start goal) o → Given (steps_of o)
  given_of None h = tt
  given_of (Some p) h = record { replays = h.replays; few = omega (arith, h.few) }

  tail_given : Window start → Window goal → Given (tail_plan q.swap_max start goal)
  unfolding tail_plan
  tail_given s g =
      by_test Given (not_tail q.swap_max start goal) None (Some (delete_tail start goal)) (λ e. tt)
      (λ e.
      let t : IsTail q.swap_max start goal = tail_fits q.swap_max start goal e s.short g.keys in
      record { replays = delete_tail_replays q start goal t; few = omega (arith, delete_tail_few q.swap_max start goal t) })

  -- the plan in hand, if there is one, replays from the start to the goal within the rules, has at most 128 steps, and the bound is its cost
  pub in_hand_sound : Window start → Window goal → q.max_len ≤ 21 → kinds_fault q.kinds ≡ false → Sound (in_hand prices q start goal)
  unfolding in_hand
  in_hand_sound s g m k =
      offered_sound 2 (omega arith, omega arith) (steps_of (dup_and_star q start goal)) _ (given_of (dup_and_star q start goal) (dup_and_star_plan q start goal s g m k))
      (offered_sound 1 (omega arith, omega arith) (tail_plan q.swap_max start goal) _ (tail_given s g) (inl (record { origin = refl; plan = refl; bound = refl })))

  module _ (s : Window start) (g : Window goal) (m : q.max_len ≤ 21) (k : kinds_fault q.kinds ≡ false) where
    -- at most 128 steps
    pub in_hand_few : length (in_hand prices q start goal).plan ≤ 128
    in_hand_few = go (in_hand prices q start goal) (in_hand_sound s g m k)
      where
        go : (h : Held) → Sound h → length h.plan ≤ 128
        go h (inl e) = omega (arith, ap length e.plan)
        go h (inr f) = f.leads.few

    -- origin 0 means no steps
    pub in_hand_none : (in_hand prices q start goal).origin ≡ 0 → (in_hand prices q start goal).plan ≡ []
    in_hand_none = go (in_hand prices q start goal) (in_hand_sound s g m k)
      where
        go : (h : Held) → Sound h → h.origin ≡ 0 → h.plan ≡ []
        go h (inl e) z = e.plan
        go h (inr f) z = absurd (omega (arith, f.origin.0))
