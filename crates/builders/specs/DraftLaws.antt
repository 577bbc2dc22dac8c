-- A draft whose steps replay from the start to its window; each allowed step keeps that, and so does star-swap.
use Rattle.std.specs.Prelude.{ℕ, suc, ◌+◌, ◌<◌, ◌≤◌, true, List, [], ◌∷◌, ◌++◌, ◌≡◌, refl, length}
use Rattle.std.proofs.Common.{ap, sym, ◌∙◌, arith, lt-ltb}
use Rattle.std.specs.Prelude.{Option, None, Some}
use Rattle.costs.specs.Laws.{OperandFits, decoded_code}
use Rattle.costs.specs.Step.{decoded, code_of}
use Rattle.costs.specs.declared.Step.{Step}
use Rattle.costs.specs.declared.Step.TheVariants.{Pop}
use Rattle.replay.specs.Machine.{Rules, allows, after, step_on, onward, ran_on, ends}
use Rattle.star_swap.specs.Star.{at, star_swaps, codes}
use Rattle.star_swap.specs.Main.{star_reaches}
use Rattle.star_swap.specs.Routes.{Routed}
use Rattle.star_swap.specs.Ran.{ran_star}
use Rattle.builders.specs.Draft.{Draft, fresh, does, routed}

-- the steps, in the machine with these rules, lead from the start to the window
abbrev pub Reached : Rules → List ℕ → Draft → Type 0
Reached q start p = ran_on q 0 p.steps start ≡ ends p.window

pub reached_fresh : (q : Rules) (start : List ℕ) → Reached q start (fresh start)
unfolding ran_on
reached_fresh q start = refl

-- steps behind steps
pub ran_append : (q : Rules) (i : ℕ) (a b w v : List ℕ) → ran_on q i a w ≡ ends v → ran_on q i (a ++ b) w ≡ ran_on q (i + length a) b v
unfolding ran_on
ran_append q i [] b w v e =
    let z : i + 0 ≡ i = omega arith in
    let f : w ≡ v = cc in
    rw (z, f)
ran_append q i (c ∷ a) b w v e = go (λ u. ran_append q (suc i) a b u v) (step_on q (decoded c) w) e
  where
    z : i + suc (length a) ≡ suc i + length a
    z = omega arith

    go : ((u : List ℕ) → ran_on q (suc i) a u ≡ ends v → ran_on q (suc i) (a ++ b) u ≡ ran_on q (suc i + length a) b v) →
        (o : Option (List ℕ)) → onward i (λ u. ran_on q (suc i) a u) o ≡ ends v → onward i (λ u. ran_on q (suc i) (a ++ b) u) o ≡ ran_on q (i + suc (length a)) b v
    go h None f = let n : ◌≡◌ {A = ℕ} 0 1 = cc in absurd (omega arith)
    go h (Some u) f = h u f ∙ ap (λ (k : ℕ). ran_on q k b v) (sym z)

pub ran_one : (q : Rules) (i : ℕ) (s : Step) (w : List ℕ) → OperandFits s → allows q s (length w) ≡ true → ran_on q i (code_of s ∷ []) w ≡ ends (after s w)
unfolding ran_on
ran_one q i s w f h = rw (decoded_code s f, h)

pub reached_does : (q : Rules) (start : List ℕ) (s : Step) (p : Draft) → Reached q start p → OperandFits s → allows q s (length p.window) ≡ true → Reached q start (does s p)
unfolding does
reached_does q start s p r f h = ran_append q 0 p.steps (code_of s ∷ []) start p.window r ∙ ran_one q _ s p.window f h

-- a pop is allowed where there is a key
pub pop_allowed : (q : Rules) (n : ℕ) → 0 < n → allows q Pop n ≡ true
unfolding allows
pop_allowed q n h = lt-ltb _ _ h

-- star-swap, where it does not refuse
module _ (q : Rules) (start goal : List ℕ) (p : Draft) (m : length goal ≤ 256) (keys : (i : ℕ) → i < length goal → at goal i < 64) (h : Routed q.swap_max p.window goal) where
  pub routed_window : (routed goal p).window ≡ goal
  unfolding routed
  routed_window = star_reaches p.window goal (record { same_length = h.same_length; same_keys = h.same_keys; keys = keys })

  pub reached_routed : Reached q start p → ran_on q 0 (routed goal p).steps start ≡ ends goal
  unfolding routed
  reached_routed r =
      ran_append q 0 p.steps (codes (star_swaps p.window goal)) start p.window r ∙ ran_star q _ p.window goal m keys h
