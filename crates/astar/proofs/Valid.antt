-- What holds of the start's entry and is kept by every successor holds of every entry that is drawn.
use Rattle.std.specs.Prelude.{◌≡◌, refl, Bool, ℕ}
use Rattle.std.proofs.Common.{subst}
use Rattle.std.specs.Prelude.{Option}
use mathlib.Core.List.{List, [], ◌∷◌, Memᴰ}
use Rattle.astar.specs.Cost.{CostAlgebra}
use Rattle.astar.specs.Search.{Problem, Succ, Allowance, Search, go, Entry, Work, Hand, find, before, push, cut, better, entry_of, step_of, offer, offers, without, turn, begin}
use Rattle.astar.specs.Tests.{by_cond}
use Rattle.astar.specs.Turns.{Reach, here, next, Keeps}
use Rattle.astar.proofs.Turns.{of_go}
use Rattle.astar.specs.Valid.{AllValid}

module _ (K : CostAlgebra) (Valid : Entry K.C → Type 0) where
  push_valid : (e : Entry K.C) (es : List (Entry K.C)) → Valid e → AllValid K Valid es → AllValid K Valid (push K e es)
  unfolding push
  push_valid e [] v h = (v, tt)
  push_valid e (x ∷ xs) v h = by_cond (AllValid K Valid) (before K e x) {x = e ∷ x ∷ xs} {y = x ∷ push K e xs} (λ t. (v, h)) (λ t. (h.0, push_valid e xs v h.1))

  -- the first of them
  pub first_valid : (es : List (Entry K.C)) (e : Entry K.C) (rest : List (Entry K.C)) → es ≡ e ∷ rest → AllValid K Valid es → Valid e
  first_valid es e rest q h = (subst (AllValid K Valid) q h).0

  pub rest_valid : (es : List (Entry K.C)) (e : Entry K.C) (rest : List (Entry K.C)) → es ≡ e ∷ rest → AllValid K Valid es → AllValid K Valid rest
  rest_valid es e rest q h = (subst (AllValid K Valid) q h).1

  module _ (Q : Problem K) (closed : (e : Entry K.C) (g : K.C) (p : Option Q.Step) (x : Succ K.C Q.Step) → Valid e → Memᴰ x (Q.after e.state p) → Valid (entry_of K Q g x)) where
    offer_valid : (H : Hand K.C) (p : ℕ) (g : K.C) (x : Succ K.C Q.Step) (w : Work K.C Q.Step) → Valid (entry_of K Q g x) → AllValid K Valid w.queue → AllValid K Valid (offer K Q H p g x w).queue
    unfolding offer
    offer_valid H p g x w v h =
        by_cond (λ (u : Work K.C Q.Step). AllValid K Valid u.queue) (cut K H (entry_of K Q g x).f) (λ t. h)
        (λ t. by_cond (λ (u : Work K.C Q.Step). AllValid K Valid u.queue) (better K Q (entry_of K Q g x).g (find x.to w.nodes)) (λ s. push_valid (entry_of K Q g x) w.queue v h) (λ s. h))

    offers_valid : (H : Hand K.C) (p : ℕ) (g : K.C) (xs : List (Succ K.C Q.Step)) (w : Work K.C Q.Step) → ((x : Succ K.C Q.Step) → Memᴰ x xs → Valid (entry_of K Q g x)) → AllValid K Valid w.queue → AllValid K Valid (offers K Q H p g xs w).queue
    unfolding offers
    offers_valid H p g [] w v h = h
    offers_valid H p g (x ∷ xs) w v h = offers_valid H p g xs (offer K Q H p g x w) (λ y m. v y (Memᴰ.tail m)) (offer_valid H p g x w (v x (Memᴰ.head refl)) h)

    turn_valid : (A : Allowance) (s : Search K.C Q.Step) → AllValid K Valid s.work.queue → Keeps K Q A (λ t. AllValid K Valid t.work.queue) s
    turn_valid A s h =
        record {
          skips = λ e es q. rest_valid s.work.queue e es q h;
          records = λ e es n q f at. rest_valid s.work.queue e es q h;
          expands = λ e es n q f room left.
              offers_valid s.hand e.state n.cost (Q.after e.state (step_of n.parent)) (without K Q es s).work
              (λ x m. closed e n.cost (step_of n.parent) x (first_valid s.work.queue e es q h) m)
              (rest_valid s.work.queue e es q h);
        }

    pub go_valid : (A : Allowance) (s t : Search K.C Q.Step) → turn K Q A s ≡ go t → AllValid K Valid s.work.queue → AllValid K Valid t.work.queue
    go_valid A s t e h = of_go K Q A (λ u. AllValid K Valid u.work.queue) s (turn_valid A s h) t e

    pub reach_valid : (A : Allowance) {t s : Search K.C Q.Step} → Reach K Q A t s → AllValid K Valid s.work.queue → AllValid K Valid t.work.queue
    reach_valid A (here p) h = subst (λ u. AllValid K Valid u.work.queue) p h
    reach_valid A (next {s} {s'} p r) h = reach_valid A r (go_valid A s s' p h)

    pub begin_valid : (bound : K.C) (have : Bool) → Valid (record { f = Q.est Q.start; g = K.𝟘; state = Q.start }) → AllValid K Valid (begin K Q bound have).work.queue
    unfolding begin
    begin_valid bound have h = (h, tt)
