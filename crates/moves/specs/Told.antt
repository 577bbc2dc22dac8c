-- Laws that the code of a move goes by.
use Rattle.std.specs.Prelude.{ℕ, zero, suc, ◌≤◌, ◌<◌, ◌≡◌, refl, List, [], ◌∷◌, length, get_or}
use Rattle.std.proofs.Common.{sym, ap, ◌∙◌, subst, arith, length-set}
use Rattle.std.specs.Prelude.{◌⊎◌}
use Rattle.std.proofs.Common.{inl, inr}
use Rattle.costs.specs.declared.Cost.{Cost}
use Rattle.costs.specs.declared.Step.{Step}
use Rattle.costs.specs.declared.Step.TheVariants.{Pop, Swap, PushImm, LoadVal}
use Rattle.costs.specs.Table.{count_of}
use Rattle.replay.specs.Machine.{after}
use Rattle.replay.specs.Laws.{Ready}
use Rattle.replay.specs.Steps.{after_swap, after_push, after_load}
use Rattle.window.specs.declared.PackedState.{PackedState}
use Rattle.window.specs.State.{Held, whole, swapped}
use Rattle.offer.specs.declared.Successor.{Successor}
use Rattle.window.specs.Keys.{keys_of, keys_length}
use Rattle.heuristic.specs.Heuristic.{least_dup, estimate, heuristic_of, sum_to, key_term}
use Rattle.heuristic.specs.Counts.{Counted, KeysFit}
use Rattle.heuristic.specs.Bare.{bare_term, over_keys}
use Rattle.moves.specs.Bare.{bare_standing}
use Rattle.successors.specs.Whole.{firsts_fit}
use Rattle.heuristic.specs.Steady.{Standing, same_counts_lem, count_swapped}
use Rattle.moves.specs.Moves.{Parent, Asking, Formed, Told}

-- the estimate of a window as a cost
pub cost_is : (prices : List ℕ) (dup dup_max : ℕ) (goal u : List ℕ) (x : ℕ) → dup ≡ least_dup prices dup_max → x ≡ sum_to (key_term prices dup goal u) 64 → ◌≡◌ {A = Cost} (record { gas = x; bytes = 0 }) (heuristic_of prices dup_max goal u)
unfolding heuristic_of estimate
cost_is prices dup dup_max goal u x e h = rw (← e, ← h)

-- a window with a key is its top key and the rest
top_is : (w : List ℕ) (key : ℕ) → 0 < length w → key ≡ get_or w 0 0 → w ≡ key ∷ after Pop w
unfolding after
top_is [] key l e = absurd (omega arith)
top_is (k ∷ w) key l e = ap (λ (x : ℕ). x ∷ w) (sym e)

-- a step that makes a key puts it on top
pub made_top : (s : Step) (k : ℕ) (w : List ℕ) → (s ≡ PushImm k) ⊎ (s ≡ LoadVal k) → k ∷ w ≡ after s w
made_top s k w (inl e) = rw e (sym (after_push k w))
made_top s k w (inr e) = rw e (sym (after_load k w))

pub made_ready : (s : Step) (k n : ℕ) → (s ≡ PushImm k) ⊎ (s ≡ LoadVal k) → Ready s n → (k < 64) × (n < 21)
made_ready s k n (inl e) h = rw e at h
made_ready s k n (inr e) h = rw e at h

-- an exchange of the top with itself
swap_none : (w : List ℕ) → swapped w 0 ≡ w
swap_none [] = refl
swap_none (k ∷ w) = refl

-- a Swap changes no count
count_after : (k : ℕ) (w : List ℕ) (d : ℕ) → d < length w → count_of k (swapped w d) ≡ count_of k w
count_after k w zero l = ap (count_of k) (swap_none w)
count_after k w (suc d) l = count_swapped k w (suc d) (omega arith) l

-- what is told of a successor formed to a state that holds the window
pub told_by : (prices : List ℕ) (dup_max : ℕ) (goal w : List ℕ) (s : Step) (state : PackedState) (gas : ℕ) (r : Successor) → Held 6 state (after s w) → length (after s w) ≤ 21 → gas ≡ estimate prices dup_max goal (after s w) → Formed prices s state gas r → Told prices dup_max goal w s r
unfolding heuristic_of
told_by prices dup_max goal w s state gas r h l g f =
    record {
      window = ap whole f.state_is ∙ h.value;
      keys = h.keys;
      fits = l;
      price = f.price;
      est = rw g at f.est;
      by = f.by;
    }

module _ (prices : List ℕ) (dup h : ℕ) (have want : List ℕ) (state : PackedState) (goal : List ℕ) (dup_max : ℕ) (p : Parent prices dup h have want state goal dup_max) where
  -- to the window u
  told_to : (s : Step) (u : List ℕ) (next : PackedState) (gas : ℕ) (r : Successor) → u ≡ after s (keys_of state) → Held 6 next u → length u ≤ 21 → gas ≡ sum_to (key_term prices dup goal u) 64 → Formed prices s next gas r → Told prices dup_max goal (keys_of state) s r
  unfolding estimate
  told_to s u next gas r e h l g f = told_by prices dup_max goal (keys_of state) s next gas r (rw e at h) (rw e at l) (rw (← e, ← p.least) g) f

  module _ (key : ℕ) (l : 0 < length (keys_of state)) (e : key ≡ get_or (keys_of state) 0 0) where
    top : keys_of state ≡ key ∷ after Pop (keys_of state)
    top = top_is (keys_of state) key l e

    pub standing_top : Standing prices dup h have want (key ∷ after Pop (keys_of state)) goal
    standing_top = subst (λ (v : List ℕ). Standing prices dup h have want v goal) top p.standing

    pub held_top : Held 6 state (key ∷ after Pop (keys_of state))
    held_top = subst (λ (v : List ℕ). Held 6 state v) top p.window

    pub told_pop : (next : PackedState) (gas : ℕ) (r : Successor) → Held 6 next (after Pop (keys_of state)) → gas ≡ sum_to (key_term prices dup goal (after Pop (keys_of state))) 64 → Formed prices Pop next gas r → Told prices dup_max goal (keys_of state) Pop r
    told_pop next gas r h g f = told_to Pop (after Pop (keys_of state)) next gas r refl h (omega (arith, ap length top, keys_length state)) g f

  pub told_push : (s : Step) (key : ℕ) (next : PackedState) (gas : ℕ) (r : Successor) → key ∷ keys_of state ≡ after s (keys_of state) → length (keys_of state) < 21 → Held 6 next (key ∷ keys_of state) → gas ≡ sum_to (key_term prices dup goal (key ∷ keys_of state)) 64 → Formed prices s next gas r → Told prices dup_max goal (keys_of state) s r
  told_push s key next gas r e l h g f = told_to s (key ∷ keys_of state) next gas r e h (omega arith) g f

  -- a Swap changes no estimate
  pub told_swap : (d : ℕ) (next : PackedState) (r : Successor) → d < length (keys_of state) → Held 6 next (swapped (keys_of state) d) → Formed prices (Swap d) next h r → Told prices dup_max goal (keys_of state) (Swap d) r
  told_swap d next r l m f =
      let w = keys_of state in
      told_to (Swap d) (swapped w d) next h r (sym (after_swap d w)) m (simp length-set (keys_length state))
      (p.standing.sum ∙ sym (same_counts_lem prices p.standing.prices_cheap dup goal (swapped w d) w (λ k. count_after k w d l)))
      f

-- the keys of an asked goal are below 64
pub asking_fit : (prices want keys goal : List ℕ) → Asking prices want keys goal → KeysFit keys
asking_fit prices want keys goal a = rw a.keys_are (firsts_fit goal a.goal_keys)

pub asking_bare : (prices : List ℕ) (dup h : ℕ) (have want keys goal : List ℕ) → Counted have [] → Asking prices want keys goal → h ≡ over_keys (bare_term prices dup want) keys → Standing prices dup h have want [] goal
asking_bare prices dup h have want keys goal c a e = bare_standing prices dup want goal a.wanted h have keys c a.prices_cheap a.goal_keys a.short a.keys_are e
