-- Each swap's depth is a misplaced slot.
use Rattle.std.specs.Prelude.{◌≡◌, refl, length}
use Rattle.std.proofs.Common.{sym, ap, subst}
use mathlib.Core.List.{List, [], ◌∷◌, ◌++◌}
use Prim.Native.Nat.{ℕ, zero, suc, ◌<◌}
use native.Mathlib.Omega.{arith}
use Rattle.std.proofs.Math.Decide.{ℕ_discrete, dec_lt}
use Rattle.star_swap.specs.Count.{cnt_by, cnt, itself, cnt_by_append, δ_refl, δ_neg}
use Rattle.star_swap.specs.Star.{last_of, entered, at, Trail, trail, circuits, misplaced, star_swaps}
use Rattle.star_swap.specs.Trail.{Done, trail_done}
use Rattle.star_swap.specs.Circuit.{last_split}
use Rattle.star_swap.specs.Main.{Missed, first_missed, Routable}

-- a list's length is a count
abbrev pub flat : ℕ → ℕ
flat i = 0

pub cnt_by_flat : (l : List ℕ) → cnt_by flat 0 l ≡ length l
unfolding cnt_by
cnt_by_flat [] = refl
cnt_by_flat (i ∷ l) = omega (arith, δ_refl 0, cnt_by_flat l)

pub last_in : (x : ℕ) (l : List ℕ) → 0 < cnt (last_of (x ∷ l)) (x ∷ l)
unfolding cnt_by
last_in x l =
    let z : ℕ = last_of (x ∷ l) in
    let v : (r : List ℕ) × (x ∷ l ≡ r ++ (z ∷ [])) = last_split x l in
    omega (arith, ap (λ (m : List ℕ). cnt z m) v.1, cnt_by_append itself z v.0 (z ∷ []), δ_refl z)

pub entered_in : (d : ℕ) (W : List ℕ) → 0 < cnt d (entered W) → 0 < cnt d W
unfolding cnt_by
entered_in d [] h = h
entered_in d (x ∷ l) h =
    elim (ℕ_discrete d (last_of (x ∷ l))) [
      | yes e ↦ subst (λ (z : ℕ). 0 < cnt z (x ∷ l)) (sym e) (last_in x l)
      | no e ↦ omega (arith, h, δ_neg d (last_of (x ∷ l)) e)
    ]

module _ (g c : ℕ → ℕ) where
  pub circuits_in : (m k : ℕ) (R : List ℕ) → ((x : ℕ) → cnt_by g x R ≡ cnt_by c x R) → (d : ℕ) → 0 < cnt d (circuits g c m k R) → 0 < cnt d R
  unfolding circuits cnt_by
  circuits_in zero k R b d h = absurd (omega arith)
  circuits_in (suc m) k R b d h =
      let t : Trail = trail g c k R in
      let e : Done g c k k [] [] R t = trail_done g c k k R (λ x. omega (arith, b x)) in
      elim (dec_lt 0 (cnt d (entered t.out))) [
        | yes q ↦ omega (arith, e.total itself d, entered_in d t.out q)
        | no q ↦
            omega (
              arith,
              e.total itself d,
              circuits_in m (suc k) t.left e.bal d
                  (omega (arith, h, cnt_by_append itself d (entered t.out) (circuits g c m (suc k) t.left))),
            )
      ]

-- the misplaced slots of two windows
unfoldable pub wrong_slots : List ℕ → List ℕ → List ℕ
wrong_slots [] goal = []
wrong_slots (x ∷ cur) [] = []
wrong_slots (x ∷ cur) (y ∷ goal) = misplaced 1 cur goal

pub star_in : (cur goal : List ℕ) → Routable cur goal → (d : ℕ) → 0 < cnt d (star_swaps cur goal) → 0 < cnt d (wrong_slots cur goal)
unfolding star_swaps wrong_slots cnt_by
star_in [] goal h d q = q
star_in (x ∷ cur) [] h d q = q
star_in (x ∷ cur) (y ∷ goal) h d q =
    let g : ℕ → ℕ = at (y ∷ goal) in
    let c : ℕ → ℕ = at (x ∷ cur) in
    let R : List ℕ = misplaced 1 cur goal in
    let m : Missed g c 1 cur goal R = first_missed x cur y goal (omega (arith, h.same_length)) in
    let t : Trail = trail g c x R in
    let e : Done g c x y [] [] R t = trail_done g c x y R (λ k. omega (arith, m.bal k, h.same_keys k)) in
    elim (dec_lt 0 (cnt d t.out)) [
      | yes p ↦ omega (arith, e.total itself d)
      | no p ↦
          omega (
            arith,
            e.total itself d,
            circuits_in g c 64 0 t.left e.bal d (omega (arith, q, cnt_by_append itself d t.out (circuits g c 64 0 t.left))),
          )
    ]
