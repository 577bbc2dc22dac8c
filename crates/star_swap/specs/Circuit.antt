-- A circuit is entered and left by its last slot, and the top is as before.
use Rattle.std.specs.Prelude.{◌≡◌}
use Rattle.std.proofs.Math.Path.{refl, ap, subst}
use Rattle.std.proofs.Common.{sym, ◌∙◌, arith}
use mathlib.Core.List.{List, [], ◌∷◌, ◌++◌}
use Prim.Native.Nat.{ℕ, ◌+◌, ◌<◌}
use Rattle.std.proofs.Math.Decide.{ℕ_discrete}
use Rattle.std.proofs.Math.ListN.{length}
use Rattle.star_swap.specs.Count.{δ, cnt_by, cnt, itself, cnt_by_append, δ_refl, δ_neg}
use Rattle.star_swap.specs.Star.{swap_at, run, at, last_of, entered}
use Rattle.star_swap.specs.Trail.{Walk}
use Rattle.star_swap.specs.Exec.{swap_length, swap_top, swap_slot, swap_other, Slots, Ran, run_walk}

pub run_append : (a b w : List ℕ) → run w (a ++ b) ≡ run (run w a) b
unfolding run
run_append [] b w = refl
run_append (d ∷ a) b w = run_append a b (swap_at w d)

pub last_split : (x : ℕ) (l : List ℕ) → (r : List ℕ) × (x ∷ l ≡ r ++ (last_of (x ∷ l) ∷ []))
unfolding last_of
last_split x [] = ([], refl)
last_split x (y ∷ l) =
    let s : (r : List ℕ) × (y ∷ l ≡ r ++ (last_of (y ∷ l) ∷ [])) = last_split y l in
    (x ∷ s.0, ap (λ (m : List ℕ). x ∷ m) s.1)

module _ (g c : ℕ → ℕ) where
  walk_snoc : (a : ℕ) (r : List ℕ) (z b : ℕ) → Walk g c a (r ++ (z ∷ [])) b → Walk g c a r (g z) × (c z ≡ b)
  unfolding Walk
  walk_snoc a [] z b k = (sym k.0, k.1)
  walk_snoc a (i ∷ r) z b k =
      let s : Walk g c (c i) r (g z) × (c z ≡ b) = walk_snoc (c i) r z b k.1 in
      ((k.0, s.0), s.1)

  -- entered by z, its last slot, before its swaps are run
  run_entered : (r : List ℕ) (z : ℕ) (w : List ℕ) (k : ℕ) →
      Walk g c k (r ++ (z ∷ [])) k →
      ((j : ℕ) → 0 < cnt j (r ++ (z ∷ [])) → at w j ≡ c j) →
      Slots (length w) (r ++ (z ∷ [])) →
      Ran g w (r ++ (z ∷ [])) (at w 0) (run w (z ∷ (r ++ (z ∷ []))))
  unfolding run cnt_by
  run_entered r z w k walk p s =
      let W : List ℕ = r ++ (z ∷ []) in
      let count : (j : ℕ) → cnt j W ≡ cnt j r + (δ j z + 0) = λ j. cnt_by_append itself j r (z ∷ []) in
      let here : 0 < cnt z W = omega (arith, count z, δ_refl z) in
      let pos : 0 < z = s.low z here in
      let lt : z < length w = s.high z here in
      let none : cnt z r ≡ 0 = omega (arith, count z, s.once z, δ_refl z) in
      let more : (j : ℕ) → 0 < cnt j r → 0 < cnt j W = λ j h. omega (arith, count j) in
      let apart : (j : ℕ) → 0 < cnt j r → j ≡ z → ⊥ = λ j h e. omega (arith, none, h, ap (λ (y : ℕ). cnt y r) e) in
      let ends : Walk g c k r (g z) × (c z ≡ k) = walk_snoc k r z k walk in
      let w₁ : List ℕ = swap_at w z in
      let top₁ : at w₁ 0 ≡ k = swap_top w z pos lt ∙ p z here ∙ ends.1 in
      let len₁ : length w₁ ≡ length w = swap_length w z pos lt in
      let slots₁ : Slots (length w₁) r =
      record {
        once = λ j. omega (arith, s.once j, count j);
        low = λ j h. s.low j (more j h);
        high = λ j h. omega (arith, s.high j (more j h), len₁);
      } in
      let q : Ran g w₁ r (g z) (run w₁ r) =
      run_walk g c r w₁ (g z) (rw top₁ ends.0) (λ j h. swap_other w z pos lt j (s.low j (more j h)) (apart j h) ∙ p j (more j h)) slots₁ in
      let w₂ : List ℕ = run w₁ r in
      let lt₂ : z < length w₂ = omega (arith, q.len, len₁) in
      rw (run_append r (z ∷ []) w₁)
      (record {
        len = swap_length w₂ z pos lt₂ ∙ q.len ∙ len₁;
        top = swap_top w₂ z pos lt₂ ∙ q.kept z pos none ∙ swap_slot w z pos lt;
        fixed = λ j h.
            elim (ℕ_discrete j z) [
              | yes e ↦ ap (at (swap_at w₂ z)) e ∙ swap_slot w₂ z pos lt₂ ∙ q.top ∙ ap g (sym e)
              | no e ↦ swap_other w₂ z pos lt₂ j (s.low j h) e ∙ q.fixed j (omega (arith, h, count j, δ_neg j z e))
            ];
        kept = λ j h e.
            let ne : j ≡ z → ⊥ = λ y. omega (arith, e, count j, ap (δ j) y, δ_refl j) in
            swap_other w₂ z pos lt₂ j h ne ∙ q.kept j h (omega (arith, e, count j)) ∙ swap_other w z pos lt j h ne;
      })

  pub run_circuit : (W w : List ℕ) (k : ℕ) → Walk g c k W k → ((j : ℕ) → 0 < cnt j W → at w j ≡ c j) → Slots (length w) W → Ran g w W (at w 0) (run w (entered W))
  unfolding run cnt_by
  run_circuit [] w k walk p s = record { len = refl; top = refl; fixed = λ j h. absurd (omega arith); kept = λ j h e. refl }
  run_circuit (x ∷ l) w k walk p s =
      let v : (r : List ℕ) × (x ∷ l ≡ r ++ (last_of (x ∷ l) ∷ [])) = last_split x l in
      let z : ℕ = last_of (x ∷ l) in
      subst
      (λ (W : List ℕ). Walk g c k W k → ((j : ℕ) → 0 < cnt j W → at w j ≡ c j) → Slots (length w) W → Ran g w W (at w 0) (run w (z ∷ W)))
      (sym v.1)
      (run_entered v.0 z w k)
      walk
      p
      s
