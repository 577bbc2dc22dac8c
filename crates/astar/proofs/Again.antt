-- Demand 3, the run's part: a run with no smaller allowances goes on where the smaller run stopped.
use Rattle.std.specs.Prelude.{◌≡◌, ◌⊎◌, Bool, true, false, cond, not, ◌||◌, T, leb, ltb, eqb}
use Rattle.std.proofs.Math.Path.{refl}
use Rattle.std.proofs.Common.{sym, ap, ◌∙◌, subst, inr, ⊎_elim, arith, leb→le, le→leb, ltb→lt, lt→ltb}
use Rattle.std.proofs.Math.Logic.{inl}
use Rattle.std.specs.Prelude.{Option, None, Some}
use mathlib.Core.List.{List, [], ◌∷◌}
use Prim.Native.Nat.{ℕ, ◌≤◌}
use Rattle.std.proofs.Math.ListN.{length}
use Rattle.astar.specs.Cost.{CostAlgebra, lt, same}
use Rattle.astar.specs.Search.{Problem, Allowance, Ending, states, expansions, Search, Turn, stop, go, Node, Entry, Hand, find, cut, record_goal, without, allowed, over, visit, drawn, turn_on, turn}
use Rattle.astar.specs.Tests.{by_cond, or_mono}
use Rattle.astar.specs.Turns.{Reach, here, next, Keeps}
use Rattle.astar.proofs.Turns.{of_go}
use Rattle.astar.specs.Again.{◌⊑◌, ByItself, Ends, NoWorse, GoesOn}

abbrev Limited : {C Step : Type 0} → Turn C Step → Type 0
Limited (stop e) = ¬ ByItself e
Limited (go t) = ⊥

-- one turn under two allowances: the same, unless the first ran into a limit
abbrev Agree : {C Step : Type 0} → Turn C Step → Turn C Step → Type 0
Agree t t' = (t ≡ t') ⊎ Limited t

module _ {C Step : Type 0} where
  stop≢go : {e : Ending} {t : Search C Step} → ◌≡◌ {A = Turn C Step} (stop e) (go t) → ⊥
  stop≢go p = let z : ◌≡◌ {A = ℕ} 0 1 = cc in omega arith

  stop_inj : {e e' : Ending} → ◌≡◌ {A = Turn C Step} (stop e) (stop e') → e ≡ e'
  stop_inj p = cc

  go_inj : {s t : Search C Step} → ◌≡◌ {A = Turn C Step} (go s) (go t) → s ≡ t
  go_inj p = cc

  agree_test : (b : Bool) (x y x' y' : Turn C Step) → Agree x x' → Agree y y' → Agree (cond b x y) (cond b x' y')
  agree_test true x y x' y' p q = p
  agree_test false x y x' y' p q = q

  agree_limit : (b b' : Bool) (x y y' : Turn C Step) → Limited x → (T b' → T b) → Agree y y' → Agree (cond b x y) (cond b' x y')
  agree_limit true b' x y y' l f q = inr l
  agree_limit false true x y y' l f q = absurd (f tt)
  agree_limit false false x y y' l f q = q

module _ (K : CostAlgebra) (Q : Problem K) (A A' : Allowance) (more : A ⊑ A') where
  allowed_more : (H : Hand K.C) → allowed K Q A H ≤ allowed K Q A' H
  allowed_more H = by_both H.have
    where
      by_both : (b : Bool) → cond b A.states_with A.states_without ≤ cond b A'.states_with A'.states_without
      by_both true = more.more_with
      by_both false = more.more_without

  ltb_less : (m m' n : ℕ) → m ≤ m' → T (ltb m' n) → T (ltb m n)
  ltb_less m m' n h t = lt→ltb m n (omega (arith, ltb→lt m' n t))

  over_less : (s : Search K.C Q.Step) → T (over K Q A' s) → T (over K Q A s)
  unfolding over
  over_less s =
      let m : ℕ = allowed K Q A s.hand in
      let m' : ℕ = allowed K Q A' s.hand in
      let i : ℕ = length s.work.nodes in
      let j : ℕ = length s.work.queue in
      or_mono (ltb m' i) (ltb m' j) (ltb m i) (ltb m j) (ltb_less m m' i (allowed_more s.hand)) (ltb_less m m' j (allowed_more s.hand))

  expansions_less : (n : ℕ) → T (leb A'.expansions n) → T (leb A.expansions n)
  expansions_less n t = le→leb A.expansions n (omega (arith, more, leb→le A'.expansions n t))

  drawn_again : (s : Search K.C Q.Step) (e : Entry K.C) (o : Option (Node K.C Q.Step)) → Agree (drawn K Q A s e o) (drawn K Q A' s e o)
  unfolding drawn visit
  drawn_again s e None = inl refl
  drawn_again s e (Some n) =
      agree_test
      (same K e.g n.cost)
      _ _ _ _
      (agree_test
      (eqb e.state Q.goal)
      _ _ _ _
      (inl refl)
      (agree_test
      (cut K s.hand e.f)
      _ _ _ _
      (inl refl)
      (agree_limit (over K Q A s) (over K Q A' s) (stop states) _ _ (λ x. x) (over_less s)
      (agree_limit (leb A.expansions s.count) (leb A'.expansions s.count) (stop expansions) _ _ (λ x. x) (expansions_less s.count) (inl refl)))))
      (inl refl)

  turn_on_again : (s : Search K.C Q.Step) (es : List (Entry K.C)) → Agree (turn_on K Q A s es) (turn_on K Q A' s es)
  unfolding turn_on
  turn_on_again s [] = inl refl
  turn_on_again s (e ∷ es) = drawn_again (without K Q es s) e (find e.state s.work.nodes)

  turn_again : (s : Search K.C Q.Step) → Agree (turn K Q A s) (turn K Q A' s)
  unfolding turn
  turn_again s = turn_on_again s s.work.queue

  -- what is reached under A is reached under A'
  pub reach_again : {t s : Search K.C Q.Step} → Reach K Q A t s → Reach K Q A' t s
  reach_again (here e) = here e
  reach_again {s} (next {s'} e r) = next (⊎_elim (λ p. sym p ∙ e) (λ l. absurd (subst Limited e l)) (turn_again s)) (reach_again r)

  pub ending_again : (s : Search K.C Q.Step) (e : Ending) → turn K Q A s ≡ stop e → ByItself e → turn K Q A' s ≡ stop e
  ending_again s e p own = ⊎_elim (λ q. sym q ∙ p) (λ l. absurd (subst Limited p l own)) (turn_again s)

module _ (K : CostAlgebra) (Q : Problem K) (A : Allowance) where
  -- a run has one end: it passes all that is reached
  pub ends_from : {t s : Search K.C Q.Step} → Reach K Q A t s → (u : Search K.C Q.Step) (e : Ending) → Ends K Q A s u e → Ends K Q A t u e
  ends_from (here p) u e r = subst (λ x. Ends K Q A x u e) p r
  ends_from (next {s} {s'} p r) u e k = ends_from r u e (record { reached = on k.reached; stopped = k.stopped })
    where
      on : Reach K Q A u s → Reach K Q A u s'
      on (here q) = absurd (stop≢go (sym k.stopped ∙ ap (turn K Q A) (sym q) ∙ p))
      on (next q w) = subst (Reach K Q A u) (go_inj (sym q ∙ p)) w

  -- and it has one last search and one ending
  pub one_end : (s : Search K.C Q.Step) (e : Ending) (t : Search K.C Q.Step) (e' : Ending) → Ends K Q A s s e → Ends K Q A s t e' → (s ≡ t) × (e ≡ e')
  one_end s e t e' a b = at_end_lem b.reached
    where
      at_end_lem : Reach K Q A t s → (s ≡ t) × (e ≡ e')
      at_end_lem (here p) = (p, stop_inj (sym a.stopped ∙ ap (turn K Q A) p ∙ b.stopped))
      at_end_lem (next p r) = absurd (stop≢go (sym a.stopped ∙ p))

module _ (K : CostAlgebra) where
  no_worse_refl : (H : Hand K.C) → NoWorse K H H
  no_worse_refl H = record { stays = λ h. h; no_higher = λ _. K.order.reflexive H.bound; recorded_stays = λ r. r }

  no_worse_trans : (H H' H'' : Hand K.C) → NoWorse K H H' → NoWorse K H' H'' → NoWorse K H H''
  no_worse_trans H H' H'' a b =
      record {
        stays = λ h. b.stays (a.stays h);
        no_higher = λ h. K.order.transitive H''.bound H'.bound H.bound (b.no_higher (a.stays h)) (a.no_higher h);
        recorded_stays = λ r. b.recorded_stays (a.recorded_stays r);
      }

  cheaper : (H : Hand K.C) (g : K.C) (b : Bool) → T (not b || lt K g H.bound) → T b → T (K.le g H.bound)
  cheaper H g true h _ = K.order.total H.bound g h
  cheaper H g false h k = absurd k

  goal_no_worse : (g : K.C) (H : Hand K.C) → NoWorse K H (record_goal K g H)
  unfolding record_goal
  goal_no_worse g H =
      by_cond
      (NoWorse K H)
      (not H.have || lt K g H.bound)
      (λ t. record { stays = λ _. tt; no_higher = cheaper H g H.have t; recorded_stays = λ _. refl })
      (λ _. no_worse_refl H)

  module _ (Q : Problem K) (A : Allowance) where
    turn_no_worse : (s : Search K.C Q.Step) → Keeps K Q A (λ t. NoWorse K s.hand t.hand) s
    turn_no_worse s =
        record {
          skips = λ e es q. no_worse_refl s.hand;
          records = λ e es n q f at. goal_no_worse n.cost s.hand;
          expands = λ e es n q f room left. no_worse_refl s.hand;
        }

    pub reach_no_worse : {t s : Search K.C Q.Step} → Reach K Q A t s → NoWorse K s.hand t.hand
    reach_no_worse {s} (here p) = subst (λ x. NoWorse K s.hand x.hand) p (no_worse_refl s.hand)
    reach_no_worse {t} {s} (next {s'} p r) =
        no_worse_trans s.hand s'.hand t.hand (of_go K Q A (λ x. NoWorse K s.hand x.hand) s (turn_no_worse s) s' p) (reach_no_worse r)

module _ (K : CostAlgebra) (Q : Problem K) (A A' : Allowance) (more : A ⊑ A') where
  -- T1
  pub goes_on :
      (s t : Search K.C Q.Step) (e : Ending) (t' : Search K.C Q.Step) (e' : Ending) →
      Ends K Q A s t e →
      Ends K Q A' s t' e' →
      GoesOn K Q A' t e t' e'
  goes_on s t e t' e' small large =
      let k : Ends K Q A' t t' e' = ends_from K Q A' (reach_again K Q A A' more small.reached) t' e' large in
      let both : ByItself e → (t ≡ t') × (e ≡ e') = λ own. one_end K Q A' t e t' e' (record { reached = here refl; stopped = ending_again K Q A A' more t e small.stopped own }) k in
      record { on = k; no_worse = reach_no_worse K Q A' k.reached; same_search = λ own. (both own).0; same_ending = λ own. (both own).1 }
