-- Demand 3: the pass mark never rises as allowances grow, a plan costs no more than its own ceiling, and an answer that ended by itself stays.
use Rattle.std.proofs.Math.Path.{◌≡◌, refl, sym, ap, subst}
use Rattle.std.proofs.Common.{ap₂, ◌∙◌, ⊎_elim, suc-le-suc, le_trans, mul-le-mul_left, arith}
use Rattle.std.specs.Prelude.{true, cond, not, ◌||◌, ℕ, suc, ◌*◌, ◌≤◌, eqb}
use Rattle.std.specs.Prelude.{Option, None, Some}
use Rattle.astar.specs.Maybe.{some_injective}
use mathlib.Core.List.{List, [], ◌∷◌, Memᴰ}
use Rattle.std.proofs.Math.Dec.{T, eqb→eq}
use Rattle.astar.specs.Cost.{CostAlgebra, lt}
use Rattle.astar.specs.Search.{Problem, Succ, Allowance, Ending, drained, cutOff, states, expansions, number, Search, Hand, Result, begin, enough, run, record_goal}
use Rattle.astar.specs.Tests.{by_cond, both_cond, neqb}
use Rattle.astar.specs.Turns.{Reach, here, next, Keeps}
use Rattle.astar.proofs.Turns.{of_go}
use Rattle.astar.specs.Again.{◌⊑◌, ByItself, NoWorse, GoesOn}
use Rattle.astar.proofs.Again.{reach_no_worse, goes_on}
use Rattle.astar.specs.Room.{Bounded}
use Rattle.astar.proofs.Fuel.{Done, search_ends}
use Rattle.astar.specs.Sound.{Good}
use Rattle.astar.proofs.Hold.{reach_good, begin_good}
use Rattle.astar.specs.Walk.{Walk, steps, sum_onto}
use Rattle.astar.specs.Back.{Plan, reads_back}
use Rattle.astar.specs.Planner.{Found, Answer, given, numbered, sum_steps, read_at, plan_at, plan_of, first, answer_of, searched, planned}
use Rattle.astar.specs.Steady.{Settled, Steady}

unsettled : (n : ℕ) → Settled n → ¬ (n ≡ 0) → ¬ (n ≡ 2) → ¬ (n ≡ 3) → ⊥
unsettled n h a b c = ⊎_elim a (⊎_elim b c) h

module _
    (K : CostAlgebra) (Q : Problem K) (priced : Q.Step → K.C) (few dear : ℕ) (B : Bounded K Q few dear)
    (lists : (v : ℕ) (q : Option Q.Step) (x : Succ K.C Q.Step) → Memᴰ x (Q.after v q) → x.price ≡ priced x.by)
    (bound : K.C) (held : Option (Found K.C Q.Step))
    (held_at : (p : Found K.C Q.Step) → held ≡ Some p → (p.ceiling ≡ bound) × T (K.le p.cost p.ceiling))
  where
    open K use {C, 𝟘, le, ◌⊞◌, room}
    open Q use {Step, start, goal, after}

    -- the steps of a walk cost its prices
    walk_cost : (a : ℕ) (xs : List (Succ C Step)) (b : ℕ) (c : C) → Walk K Q a xs b → sum_steps K priced c (steps K Q xs) ≡ sum_onto K Q c xs
    walk_cost a [] b c w = refl
    walk_cost a (x ∷ xs) b c w = ap (λ (d : C). sum_steps K priced (c ⊞ d) (steps K Q xs)) (sym (lists a w.0.0 x w.0.1)) ∙ walk_cost x.to xs b (c ⊞ x.price) w.1

    -- ---- until a goal is recorded, the hand is the first

    abbrev FirstHand : Search C Step → Type 0
    FirstHand s = s.hand.last ≡ None → s.hand ≡ (first K Q priced few bound held).hand

    goal_first : (g : C) (H H₀ : Hand C) → (H.last ≡ None → H ≡ H₀) → (record_goal K g H).last ≡ None → record_goal K g H ≡ H₀
    unfolding record_goal
    goal_first g H H₀ old =
        by_cond (λ (H' : Hand C). H'.last ≡ None → H' ≡ H₀) (not H.have || lt K g H.bound) {x = record { bound = g; have = true; last = Some g }} {y = H} (λ _ e. let z : ◌≡◌ {A = ℕ} 0 1 = cc in absurd (omega arith)) (λ _. old)

    module _ (A : Allowance) (fits : dear * suc A.expansions ≤ room) where
      turn_first : (s : Search C Step) → FirstHand s → Keeps K Q A FirstHand s
      turn_first s h =
          record {
            skips = λ e es q. h;
            records = λ e es n q f at. goal_first n.cost s.hand _ h;
            expands = λ e es n q f r l. h;
          }

      reach_first : {t s : Search C Step} → Reach K Q A t s → FirstHand s → FirstHand t
      reach_first (here p) h = subst FirstHand p h
      reach_first (next {s} {s'} p r) h = reach_first r (of_go K Q A FirstHand s (turn_first s h) s' p)

      -- ---- a plan is in hand exactly if one is found, and the bound is its ceiling

      record Held (s : Search C Step) (p : Found C Step) : Type 0 where
        found : plan_of K Q priced few bound held s ≡ Some p
        marked : p.ceiling ≡ s.hand.bound
        within : T (le p.cost p.ceiling)

      read_held : (s : Search C Step) (g : C) → s.hand.last ≡ Some g → Plan K Q s g → s.hand.bound ≡ g → (p : Found C Step) × Held s p
      unfolding plan_of
      read_held s g e P b =
          let p : Found C Step = record { origin = 3; steps = steps K Q P.route; cost = sum_steps K priced 𝟘 (steps K Q P.route); ceiling = g } in (
            p,
            record {
              found = ap (λ (o : Option C). plan_at K Q priced few bound held o s.count s.work.nodes) e ∙ ap (read_at K Q priced few bound held g) P.read;
              marked = sym b;
              within = rw (walk_cost start P.route goal 𝟘 P.walk) P.cheap;
            },
          )

      builder_held : (s : Search C Step) → FirstHand s → s.hand.last ≡ None → (p : Found C Step) → held ≡ Some p → Held s p
      unfolding plan_of begin
      builder_held s h e p d =
          record { found = ap (λ (o : Option C). plan_at K Q priced few bound held o s.count s.work.nodes) e ∙ d; marked = (held_at p d).0 ∙ ap (λ (H : Hand C). H.bound) (sym (h e)); within = (held_at p d).1 }

      -- what is reached from the first search
      record Reached (s : Search C Step) : Type 0 where
        good : Good K Q dear A s
        firstly : FirstHand s

      some_given : {A : Type 0} (o : Option A) → T (given o) → (a : A) × (o ≡ Some a)
      some_given None t = absurd t
      some_given (Some a) t = (a, refl)

      -- a plan in hand is found
      in_hand : (s : Search C Step) → Reached s → T s.hand.have → (p : Found C Step) × Held s p
      unfolding begin
      in_hand s r h = by_last s.hand.last refl
        where
          by_last : (o : Option C) → s.hand.last ≡ o → (p : Found C Step) × Held s p
          by_last None e =
              let k : T (given held) = subst (λ (H : Hand C). T H.have) (r.firstly e) h in
              let d = some_given held k in
              (d.0, builder_held s r.firstly e d.0 d.1)
          by_last (Some g) e = read_held s g e (reads_back K Q few dear B A fits s r.good g e) (r.good.plan g e).bound_is

      -- and what is found is in hand
      none_held : (s : Search C Step) → Reached s → (p : Found C Step) → plan_of K Q priced few bound held s ≡ Some p → T s.hand.have
      unfolding plan_of begin
      none_held s r p f = by_last s.hand.last refl
        where
          by_last : (o : Option C) → s.hand.last ≡ o → T s.hand.have
          by_last None e =
              let d : held ≡ Some p = sym (ap (λ (o : Option C). plan_at K Q priced few bound held o s.count s.work.nodes) e) ∙ f in
              subst (λ (H : Hand C). T H.have) (sym (r.firstly e)) (subst (λ (o : Option (Found C Step)). T (given o)) (sym d) tt)
          by_last (Some g) e = (r.good.plan g e).in_hand

      is_held : (s : Search C Step) → Reached s → (p : Found C Step) → plan_of K Q priced few bound held s ≡ Some p → Held s p
      is_held s r p f =
          let k = in_hand s r (none_held s r p f) in
          subst (Held s) (some_injective k.0 p (sym k.1.found ∙ f)) k.1

    module _ (A A' : Allowance) (more : A ⊑ A') (fits' : dear * suc A'.expansions ≤ room) where
      fits : dear * suc A.expansions ≤ room
      fits = le_trans (mul-le-mul_left dear (suc-le-suc more.more_expansions)) fits'

      abbrev s₀ : Search C Step
      s₀ = first K Q priced few bound held

      reached : (D : Allowance) (f : dear * suc D.expansions ≤ room) (s : Search C Step) → Reach K Q D s s₀ → Reached D f s
      reached D f s r =
          record { good = reach_good K Q few dear B D f r (begin_good K Q few dear B D f bound (given held)); firstly = reach_first D f r (λ _. refl) }

      abbrev answer : Search C Step → ℕ → Answer C Step
      answer = answer_of K Q priced few bound held

      -- two searches that were reached, the second no worse
      pair :
          (s : Search C Step) → Reached A fits s → (t : Search C Step) → Reached A' fits' t → NoWorse K s.hand t.hand →
          (i j : ℕ) → (Settled i → answer s i ≡ answer t j) → Steady K Step (answer s i) (answer t j)
      pair s r t r' w i j same =
          record {
            stays = λ p f.
                let a : Held A fits s p = is_held A fits s r p f in
                let h : T s.hand.have = none_held A fits s r p f in
                let b = in_hand A' fits' t r' (w.stays h) in
                (b.0, b.1.found, rw (b.1.marked, a.marked) (w.no_higher h));
            within_a = λ p f. (is_held A fits s r p f).within;
            within_b = λ p f. (is_held A' fits' t r' p f).within;
            settled = same;
          }

      settled_own : (e : Ending) → Settled (number e) → ByItself e
      unfolding number
      settled_own drained h = tt
      settled_own cutOff h = tt
      settled_own states h = unsettled 4 h (λ p. omega arith) (λ p. omega arith) (λ p. omega arith)
      settled_own expansions h = unsettled 5 h (λ p. omega arith) (λ p. omega arith) (λ p. omega arith)

      runs :
          (r r' : Result C Step) → Done K Q few dear B A s₀ r → Done K Q few dear B A' s₀ r' →
          Steady K Step (answer r.final (numbered r.ending)) (answer r'.final (numbered r'.ending))
      runs r r' d d' =
          let w : GoesOn K Q A' r.final d.ending r'.final d'.ending = goes_on K Q A A' more s₀ r.final d.ending r'.final d'.ending d.ends d'.ends in
          pair
          r.final
          (reached A fits r.final d.ends.reached)
          r'.final
          (reached A' fits' r'.final d'.ends.reached)
          w.no_worse
          (numbered r.ending)
          (numbered r'.ending)
          (λ h.
          let own : ByItself d.ending = settled_own d.ending (subst (λ (o : Option Ending). Settled (numbered o)) d.ended h) in
          let e : r.ending ≡ r'.ending = d.ended ∙ ap {B = Option Ending} Some (w.same_ending own) ∙ sym d'.ended in
          ap₂ answer (w.same_search own) (ap numbered e))

      not_searched :
          (r' : Result C Step) → Done K Q few dear B A' s₀ r' → Steady K Step (answer s₀ 1) (answer r'.final (numbered r'.ending))
      not_searched r' d' =
          pair
          s₀
          (reached A fits s₀ (here refl))
          r'.final
          (reached A' fits' r'.final d'.ends.reached)
          (reach_no_worse K Q A' d'.ends.reached)
          1
          (numbered r'.ending)
          (λ h. absurd (unsettled 1 h (λ p. omega arith) (λ p. omega arith) (λ p. omega arith)))

      no_search : Steady K Step (answer s₀ 1) (answer s₀ 1)
      no_search =
          pair s₀ (reached A fits s₀ (here refl)) s₀ (reached A' fits' s₀ (here refl)) (reach_no_worse K Q A' (here {s = s₀} refl)) 1 1 (λ _. refl)

      abbrev at_goal_lem : Answer C Step
      at_goal_lem = record { plan = Some (record { origin = 0; steps = []; cost = 𝟘; ceiling = 𝟘 }); ending = 0; expansions = 0 }

      goal_steady : Steady K Step at_goal_lem at_goal_lem
      goal_steady =
          let w : (p : Found C Step) → at_goal_lem.plan ≡ Some p → T (le p.cost p.ceiling) =
          λ p f. subst (λ (q : Found C Step). T (le q.cost q.ceiling)) (some_injective _ p f) (K.order.reflexive 𝟘)
          in
          record { stays = λ p f. (p, f, K.order.reflexive p.ceiling); within_a = w; within_b = w; settled = λ _. refl }

      -- demand 3
      pub steady : Steady K Step (planned K Q priced few bound held A) (planned K Q priced few bound held A')
      unfolding planned searched
      steady =
          both_cond
          (Steady K Step)
          (eqb start goal)
          (λ _. goal_steady)
          (λ _.
          by_cond
          (λ (a : Answer C Step). Steady K Step a (cond (eqb A'.expansions 0) (answer s₀ 1) (searched K Q priced few bound held A')))
          (eqb A.expansions 0)
          (λ _.
          by_cond
          (Steady K Step (answer s₀ 1))
          (eqb A'.expansions 0)
          (λ _. no_search)
          (λ _. not_searched (run K Q A' (enough K Q few A') s₀) (search_ends K Q few dear B A' bound (given held))))
          (λ some_left.
          by_cond
          (Steady K Step (searched K Q priced few bound held A))
          (eqb A'.expansions 0)
          (λ t. absurd (neqb A.expansions 0 some_left (omega (arith, eqb→eq A'.expansions 0 t, more.more_expansions))))
          (λ _.
          runs
          (run K Q A (enough K Q few A) s₀)
          (run K Q A' (enough K Q few A') s₀)
          (search_ends K Q few dear B A bound (given held))
          (search_ends K Q few dear B A' bound (given held)))))
