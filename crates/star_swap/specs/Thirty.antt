-- A circuit has at least two slots, so there are at most three swaps for two misplaced slots.
use Rattle.std.specs.Prelude.{◌≡◌, length}
use Rattle.std.proofs.Math.Path.{sym}
use Rattle.std.proofs.Common.{◌∙◌}
use mathlib.Core.List.{List, [], ◌∷◌}
use Prim.Native.Nat.{ℕ, zero, suc, ◌*◌, ◌≤◌, ◌<◌}
use native.Mathlib.Omega.{arith}
use Rattle.std.proofs.Math.ListN.{length-append}
use Rattle.star_swap.specs.Count.{cnt_by, cnt, itself, δ_refl}
use Rattle.star_swap.specs.Star.{at, entered, Trail, trail, circuits, misplaced, star_swaps}
use Rattle.star_swap.specs.Trail.{Walk, Done, trail_done}
use Rattle.star_swap.specs.Main.{Missed, first_missed, Routable}
use Rattle.star_swap.specs.Steps.{flat, cnt_by_flat, wrong_slots}

module _ (g c : ℕ → ℕ) where
  two_slots : (k : ℕ) (W : List ℕ) → Walk g c k W k → ((j : ℕ) → 0 < cnt j W → c j ≡ g j → ⊥) → 2 * length (entered W) ≤ 3 * length W
  unfolding Walk cnt_by
  two_slots k [] w h = omega arith
  two_slots k (z ∷ []) w h = absurd (h z (omega (arith, δ_refl z)) (w.1 ∙ sym w.0))
  two_slots k (y ∷ (z ∷ l)) w h = omega arith

  circuits_thirds : (m k : ℕ) (R : List ℕ) → ((x : ℕ) → cnt_by g x R ≡ cnt_by c x R) → ((j : ℕ) → 0 < cnt j R → c j ≡ g j → ⊥) →
      2 * length (circuits g c m k R) ≤ 3 * length R
  unfolding circuits cnt_by
  circuits_thirds zero k R b h = omega arith
  circuits_thirds (suc m) k R b h =
      let t : Trail = trail g c k R in
      let e : Done g c k k [] [] R t = trail_done g c k k R (λ x. omega (arith, b x)) in
      omega (
        arith,
        e.total flat 0,
        cnt_by_flat t.out,
        cnt_by_flat t.left,
        cnt_by_flat R,
        two_slots k t.out e.walk (λ j q. h j (omega (arith, q, e.total itself j))),
        circuits_thirds m (suc k) t.left e.bal (λ j q. h j (omega (arith, q, e.total itself j))),
        length-append (entered t.out) (circuits g c m (suc k) t.left),
      )

-- with at most 20 misplaced slots, at most 30 swaps
pub star_thirds : (cur goal : List ℕ) → Routable cur goal → 2 * length (star_swaps cur goal) ≤ 3 * length (wrong_slots cur goal)
unfolding star_swaps wrong_slots cnt_by
star_thirds [] goal h = omega arith
star_thirds (x ∷ cur) [] h = omega arith
star_thirds (x ∷ cur) (y ∷ goal) h =
    let g : ℕ → ℕ = at (y ∷ goal) in
    let c : ℕ → ℕ = at (x ∷ cur) in
    let R : List ℕ = misplaced 1 cur goal in
    let m : Missed g c 1 cur goal R = first_missed x cur y goal (omega (arith, h.same_length)) in
    let t : Trail = trail g c x R in
    let e : Done g c x y [] [] R t = trail_done g c x y R (λ k. omega (arith, m.bal k, h.same_keys k)) in
    omega (
      arith,
      e.total flat 0,
      cnt_by_flat t.out,
      cnt_by_flat t.left,
      cnt_by_flat R,
      circuits_thirds g c 64 0 t.left e.bal (λ j q. m.wrong j (omega (arith, q, e.total itself j))),
      length-append t.out (circuits g c 64 0 t.left),
    )
