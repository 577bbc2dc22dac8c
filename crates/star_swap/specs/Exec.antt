-- What the swaps of a walk do to a window.
use Rattle.std.specs.Prelude.{◌≡◌, set}
use Rattle.std.proofs.Math.Path.{refl, sym, ap}
use Rattle.std.proofs.Common.{◌∙◌, length-set, get_or-set_same, get_or-set_other}
use mathlib.Core.List.{List, [], ◌∷◌}
use Prim.Native.Nat.{ℕ, ◌+◌, ◌≤◌, ◌<◌}
use native.Mathlib.Omega.{arith}
use Rattle.std.proofs.Math.Decide.{ℕ_discrete}
use Rattle.std.proofs.Math.ListN.{length}
use Rattle.star_swap.specs.Count.{δ, cnt_by, cnt, δ_refl, δ_neg}
use Rattle.star_swap.specs.Star.{swap_at, run, at}
use Rattle.star_swap.specs.Trail.{Walk}

module _ (w : List ℕ) (i : ℕ) (pos : 0 < i) (lt : i < length w) where
  pub swap_length : length (swap_at w i) ≡ length w
  swap_length = simp length-set

  pub swap_top : at (swap_at w i) 0 ≡ at w i
  swap_top =
      get_or-set_other (set w 0 (at w i)) i 0 (at w 0) 0 (omega arith) ∙ get_or-set_same w 0 (at w i) 0 (omega arith)

  pub swap_slot : at (swap_at w i) i ≡ at w 0
  swap_slot = get_or-set_same (set w 0 (at w i)) i (at w 0) 0 (omega (arith, length-set w 0 (at w i)))

  pub swap_other : (j : ℕ) → 0 < j → (j ≡ i → ⊥) → at (swap_at w i) j ≡ at w j
  swap_other j p ne =
      get_or-set_other (set w 0 (at w i)) i j (at w 0) 0 ne ∙ get_or-set_other w 0 j (at w i) 0 (omega arith)

-- 0 < cnt j W, by cases on the head
pub head_or : (j i : ℕ) (n : ℕ) → 0 < δ j i + n → (j ≡ i → ⊥) → 0 < n
head_or j i n h ne = omega (arith, δ_neg j i ne)

-- the slots of W are between 1 and the length, and no slot stands twice
pub record Slots (n : ℕ) (W : List ℕ) : Type 0 where
  pub once : (j : ℕ) → cnt j W ≤ 1
  pub low : (j : ℕ) → 0 < cnt j W → 0 < j
  pub high : (j : ℕ) → 0 < cnt j W → j < n

pub record Ran (g : ℕ → ℕ) (w W : List ℕ) (b : ℕ) (w' : List ℕ) : Type 0 where
  pub len : length w' ≡ length w
  pub top : at w' 0 ≡ b
  pub fixed : (j : ℕ) → 0 < cnt j W → at w' j ≡ g j
  pub kept : (j : ℕ) → 0 < j → cnt j W ≡ 0 → at w' j ≡ at w j

module _ (g c : ℕ → ℕ) where
  -- the swaps of a walk from the top's key, over slots that hold their present keys: each slot gets its goal key, the top the walk's end
  pub run_walk : (W w : List ℕ) (b : ℕ) → Walk g c (at w 0) W b → ((j : ℕ) → 0 < cnt j W → at w j ≡ c j) → Slots (length w) W → Ran g w W b (run w W)
  unfolding Walk run cnt_by
  run_walk [] w b k p s = record { len = refl; top = k; fixed = λ j h. absurd (omega arith); kept = λ j h e. refl }
  run_walk (i ∷ W) w b k p s =
      let here : 0 < cnt i (i ∷ W) = omega (arith, δ_refl i) in
      let pos : 0 < i = s.low i here in
      let lt : i < length w = s.high i here in
      let none : cnt i W ≡ 0 = omega (arith, s.once i, δ_refl i) in
      let more : (j : ℕ) → 0 < cnt j W → 0 < cnt j (i ∷ W) = λ j h. omega arith in
      let apart : (j : ℕ) → 0 < cnt j W → j ≡ i → ⊥ = λ j h e. omega (arith, none, h, ap (λ (z : ℕ). cnt z W) e) in
      let w₁ : List ℕ = swap_at w i in
      let top₁ : at w₁ 0 ≡ c i = swap_top w i pos lt ∙ p i here in
      let slots₁ : Slots (length w₁) W =
      record {
        once = λ j. omega (arith, s.once j);
        low = λ j h. s.low j (more j h);
        high = λ j h. omega (arith, s.high j (more j h), swap_length w i pos lt);
      } in
      let r : Ran g w₁ W b (run w₁ W) =
      run_walk W w₁ b (rw top₁ k.1) (λ j h. swap_other w i pos lt j (s.low j (more j h)) (apart j h) ∙ p j (more j h)) slots₁ in
      record {
        len = r.len ∙ swap_length w i pos lt;
        top = r.top;
        fixed = λ j h.
            elim (ℕ_discrete j i) [
              | yes q ↦ ap (at (run w₁ W)) q ∙ r.kept i pos none ∙ swap_slot w i pos lt ∙ sym k.0 ∙ ap g (sym q)
              | no q ↦ r.fixed j (head_or j i (cnt j W) h q)
            ];
        kept = λ j h e. r.kept j h (omega arith) ∙ swap_other w i pos lt j h (λ q. omega (arith, e, ap (δ j) q, δ_refl j));
      }
