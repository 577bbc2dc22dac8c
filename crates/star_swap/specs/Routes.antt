-- Which windows swaps below a depth can turn into which: star-swap's refusal is given exactly where none can.
use Rattle.std.specs.Prelude.{◌≡◌, refl, ℕ, zero, suc, ◌+◌, ◌≤◌, ◌<◌, length, set}
use Rattle.std.proofs.Common.{sym, ap, ◌∙◌, arith, ext_get_or}
use mathlib.Core.List.{List, [], ◌∷◌}
use Rattle.std.proofs.Math.Decide.{dec_lt}
use Rattle.star_swap.specs.Count.{δ, cnt_by, cnt, δ_refl, δ_pos}
use Rattle.star_swap.specs.Star.{at, swap_at, run, star_swaps}
use Rattle.star_swap.specs.Exec.{swap_length, swap_other}
use Rattle.star_swap.specs.Main.{first_missed, Routable, star_reaches}
use Rattle.star_swap.specs.Steps.{wrong_slots, star_in}
use Rattle.star_swap.specs.Upper.{Reaches, star_least}

pub cnt_set : (l : List ℕ) (d a k : ℕ) → d < length l → cnt k (set l d a) + δ k (at l d) ≡ cnt k l + δ k a
unfolding cnt_by
cnt_set [] d a k h = absurd (omega arith)
cnt_set (x ∷ l) zero a k h = omega arith
cnt_set (x ∷ l) (suc d) a k h = omega (arith, cnt_set l d a k (omega arith))

pub swap_cnt : (w : List ℕ) (d k : ℕ) → 0 < d → d < length w → cnt k (swap_at w d) ≡ cnt k w
unfolding cnt_by
swap_cnt [] d k p h = absurd (omega arith)
swap_cnt (x ∷ l) zero k p h = absurd (omega arith)
swap_cnt (x ∷ l) (suc d) k p h = omega (arith, cnt_set l d x k (omega arith))

-- a sequence of swaps, each from 1 to below sm and below the length, with the goal at its end
pub record Routes (sm : ℕ) (cur goal S : List ℕ) : Type 0 where
  pub reaches : Reaches cur goal S
  pub below : (d : ℕ) → 0 < cnt d S → d < sm

-- what star-swap asks, beside the keys below 64
pub record Routed (sm : ℕ) (cur goal : List ℕ) : Type 0 where
  pub same_length : length cur ≡ length goal
  pub same_keys : (k : ℕ) → cnt k cur ≡ cnt k goal
  pub placed : (j : ℕ) → 0 < j → sm ≤ j → at cur j ≡ at goal j

-- where there is a sequence, star-swap does not refuse
pub routes_routed : (sm : ℕ) (S cur goal : List ℕ) → Routes sm cur goal S → Routed sm cur goal
unfolding run cnt_by
routes_routed sm [] cur goal r =
    let e : cur ≡ goal = r.reaches.ends in
    record { same_length = ap length e; same_keys = λ k. ap (cnt k) e; placed = λ j p q. ap (λ (w : List ℕ). at w j) e }
routes_routed sm (d ∷ S) cur goal r =
    let here = r.reaches.depths d (omega (arith, δ_refl d)) in
    let low : d < sm = r.below d (omega (arith, δ_refl d)) in
    let len : length (swap_at cur d) ≡ length cur = swap_length cur d here.0 here.1 in
    let i : Routed sm (swap_at cur d) goal =
    routes_routed sm S (swap_at cur d) goal
    (record {
      reaches =
          record {
            depths = λ j q. ((r.reaches.depths j (omega (arith, q))).0, omega (arith, (r.reaches.depths j (omega (arith, q))).1, len));
            ends = r.reaches.ends;
          };
      below = λ j q. r.below j (omega (arith, q));
    }) in
    record {
      same_length = sym len ∙ i.same_length;
      same_keys = λ k. sym (swap_cnt cur d k here.0 here.1) ∙ i.same_keys k;
      placed = λ j p q. sym (swap_other cur d here.0 here.1 j p (λ e. omega arith)) ∙ i.placed j p q;
    }

-- where star-swap does not refuse, its own list is one
pub routed_routes : (sm : ℕ) (cur goal : List ℕ) → ((i : ℕ) → i < length goal → at goal i < 64) → Routed sm cur goal → Routes sm cur goal (star_swaps cur goal)
routed_routes sm cur goal keys h =
    let r : Routable cur goal = record { same_length = h.same_length; same_keys = h.same_keys; keys = keys } in
    record {
      reaches = record { depths = λ d q. within cur goal h.same_length d (star_in cur goal r d q); ends = star_reaches cur goal r };
      below = λ d q. under cur goal h.same_length h.placed d (star_in cur goal r d q);
    }
  where
    within : (cur goal : List ℕ) → length cur ≡ length goal → (d : ℕ) → 0 < cnt d (wrong_slots cur goal) → (0 < d) × (d < length cur)
    within [] goal e d q = unfold wrong_slots cnt_by in (absurd (omega arith))
    within (x ∷ cur) [] e d q = absurd (omega arith)
    within (x ∷ cur) (y ∷ goal) e d q =
        let m = first_missed x cur y goal (omega arith) in
        unfold wrong_slots in (omega (arith, m.low d q), omega (arith, m.high d q))

    under : (cur goal : List ℕ) → length cur ≡ length goal → ((j : ℕ) → 0 < j → sm ≤ j → at cur j ≡ at goal j) → (d : ℕ) → 0 < cnt d (wrong_slots cur goal) → d < sm
    under [] goal e p d q = unfold wrong_slots cnt_by in (absurd (omega arith))
    under (x ∷ cur) [] e p d q = absurd (omega arith)
    under (x ∷ cur) (y ∷ goal) e p d q =
        let m = first_missed x cur y goal (omega arith) in
        elim (dec_lt d sm) [
          | yes s ↦ s
          | no s ↦ unfold wrong_slots in (absurd (m.wrong d q (p d (omega (arith, m.low d q)) (omega arith))))
        ]

-- and none is shorter
pub routed_least : (sm : ℕ) (cur goal S : List ℕ) → ((i : ℕ) → i < length goal → at goal i < 64) → Routes sm cur goal S → length (star_swaps cur goal) ≤ length S
routed_least sm cur goal S keys r =
    let h : Routed sm cur goal = routes_routed sm S cur goal r in
    star_least cur goal (record { same_length = h.same_length; same_keys = h.same_keys; keys = keys }) S r.reaches

-- the top too is in place where the slots from sm on include it
pub placed_all : (sm : ℕ) (cur goal : List ℕ) → Routed sm cur goal → (j : ℕ) → sm ≤ j → at cur j ≡ at goal j
unfolding cnt_by
placed_all sm cur goal r (suc j) h = r.placed (suc j) (omega arith) h
placed_all sm [] [] r zero h = refl
placed_all sm [] (y ∷ goal) r zero h = absurd (omega (arith, r.same_length))
placed_all sm (x ∷ cur) [] r zero h = absurd (omega (arith, r.same_length))
placed_all sm (x ∷ cur) (y ∷ goal) r zero h =
    let e : cur ≡ goal = ext_get_or 0 cur goal (omega (arith, r.same_length)) (λ i q. r.placed (suc i) (omega arith) (omega arith)) in
    δ_pos x y (omega (arith, r.same_keys x, δ_refl x, ap (cnt x) e))
