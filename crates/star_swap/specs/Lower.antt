-- No sequence of swaps is shorter than the misplaced slots and the colours that are apart from the top's.
use Rattle.std.specs.Prelude.{◌≡◌, Bool, eqb, set}
use Rattle.std.proofs.Math.Path.{refl, ap}
use Rattle.std.proofs.Common.{sym, ◌∙◌}
use Rattle.std.proofs.Math.Bool.{true, false}
use mathlib.Core.List.{List, [], ◌∷◌}
use Prim.Native.Nat.{ℕ, zero, suc, ◌+◌, ◌-◌, ◌≤◌, ◌<◌}
use native.Mathlib.Omega.{arith}
use Rattle.std.proofs.Math.Decide.{ℕ_discrete}
use Rattle.std.proofs.Math.ListN.{length}
use Rattle.star_swap.specs.Count.{δ, cnt_by, cnt, itself, cnt_by_pos, δ_refl, δ_neg, Test, equal, unequal, test}
use Rattle.star_swap.specs.Star.{at, swap_at, run, slot_if, misplaced}
use Rattle.star_swap.specs.Steps.{wrong_slots}
use Rattle.star_swap.specs.Exec.{swap_length, swap_top, swap_slot, swap_other}

-- 1 where two keys differ
abbrev off : ℕ → ℕ → ℕ
off a b = 1 - δ a b

offs : List ℕ → List ℕ → ℕ
offs [] goal = 0
offs (x ∷ cur) [] = 0
offs (x ∷ cur) (y ∷ goal) = off x y + offs cur goal

offs_length : (p : ℕ) (cur goal : List ℕ) → length (misplaced p cur goal) ≡ offs cur goal
unfolding misplaced offs
offs_length p [] goal = refl
offs_length p (x ∷ cur) [] = refl
offs_length p (x ∷ cur) (y ∷ goal) = go (eqb x y) (test x y) (offs_length (suc p) cur goal)
  where
    go : (t : Bool) → Test x y t → length (misplaced (suc p) cur goal) ≡ offs cur goal →
        length (slot_if t p (misplaced (suc p) cur goal)) ≡ off x y + offs cur goal
    go true (equal e) h = omega (arith, h, ap (δ x) (sym e), δ_refl x)
    go false (unequal e) h = omega (arith, h, δ_neg x y e)

offs_set : (l goal : List ℕ) (d a : ℕ) → d < length l → length l ≡ length goal →
    offs (set l d a) goal + off (at l d) (at goal d) ≡ offs l goal + off a (at goal d)
unfolding offs
offs_set [] goal d a h e = absurd (omega arith)
offs_set (x ∷ l) [] d a h e = absurd (omega arith)
offs_set (x ∷ l) (y ∷ goal) zero a h e = omega arith
offs_set (x ∷ l) (y ∷ goal) (suc d) a h e = omega (arith, offs_set l goal d a (omega arith) (omega arith))

offs_same : (l : List ℕ) → offs l l ≡ 0
unfolding offs
offs_same [] = refl
offs_same (x ∷ l) = omega (arith, δ_refl x, offs_same l)

-- how many slots are misplaced
abbrev pub wrongs : List ℕ → List ℕ → ℕ
wrongs w goal = length (wrong_slots w goal)

wrongs_same : (w : List ℕ) → wrongs w w ≡ 0
unfolding wrong_slots
wrongs_same [] = refl
wrongs_same (x ∷ l) = offs_length 1 l l ∙ offs_same l

wrongs_swap : (w goal : List ℕ) (d : ℕ) → 0 < d → d < length w → length w ≡ length goal →
    wrongs (swap_at w d) goal + off (at w d) (at goal d) ≡ wrongs w goal + off (at w 0) (at goal d)
unfolding wrong_slots
wrongs_swap w goal zero p h e = absurd (omega arith)
wrongs_swap [] goal (suc d) p h e = absurd (omega arith)
wrongs_swap (x ∷ l) [] (suc d) p h e = absurd (omega arith)
wrongs_swap (x ∷ l) (y ∷ goal) (suc d) p h e =
    omega (arith, offs_length 1 (set l d x) goal, offs_length 1 l goal, offs_set l goal d x (omega arith) (omega arith))

abbrev drop_if : Bool → ℕ → List ℕ → List ℕ
drop_if true z l = l
drop_if false z l = z ∷ l

-- a list without the items of the colour b
without : (ℕ → ℕ) → ℕ → List ℕ → List ℕ
without f b [] = []
without f b (z ∷ Z) = drop_if (eqb b (f z)) z (without f b Z)

module _ (f : ℕ → ℕ) (b : ℕ) where
  without_length : (Z : List ℕ) → length Z ≤ length (without f b Z) + cnt_by f b Z
  unfolding without cnt_by
  without_length [] = omega arith
  without_length (z ∷ Z) = go (eqb b (f z)) (test b (f z)) (without_length Z)
    where
      go : (t : Bool) → Test b (f z) t → length Z ≤ length (without f b Z) + cnt_by f b Z →
          suc (length Z) ≤ length (drop_if t z (without f b Z)) + (δ b (f z) + cnt_by f b Z)
      go true (equal e) h = omega (arith, h, ap (δ b) (sym e), δ_refl b)
      go false (unequal e) h = omega arith

  without_cnt : (h : ℕ → ℕ) (x : ℕ) (Z : List ℕ) → cnt_by h x (without f b Z) ≤ cnt_by h x Z
  unfolding without cnt_by
  without_cnt h x [] = omega arith
  without_cnt h x (z ∷ Z) = go (eqb b (f z)) (without_cnt h x Z)
    where
      go : (t : Bool) → cnt_by h x (without f b Z) ≤ cnt_by h x Z → cnt_by h x (drop_if t z (without f b Z)) ≤ δ x (h z) + cnt_by h x Z
      go true q = omega arith
      go false q = omega arith

  without_none : (Z : List ℕ) → cnt_by f b (without f b Z) ≡ 0
  unfolding without cnt_by
  without_none [] = refl
  without_none (z ∷ Z) = go (eqb b (f z)) (test b (f z)) (without_none Z)
    where
      go : (t : Bool) → Test b (f z) t → cnt_by f b (without f b Z) ≡ 0 → cnt_by f b (drop_if t z (without f b Z)) ≡ 0
      go true (equal e) q = q
      go false (unequal e) q = omega (arith, q, δ_neg b (f z) e)

  without_same : (f' : ℕ → ℕ) → ((z : ℕ) → (b ≡ f z → ⊥) → f' z ≡ f z) → (x : ℕ) (Z : List ℕ) → cnt_by f' x (without f b Z) ≡ cnt_by f x (without f b Z)
  unfolding without cnt_by
  without_same f' s x [] = refl
  without_same f' s x (z ∷ Z) = go (eqb b (f z)) (test b (f z)) (without_same f' s x Z)
    where
      go : (t : Bool) → Test b (f z) t → cnt_by f' x (without f b Z) ≡ cnt_by f x (without f b Z) →
          cnt_by f' x (drop_if t z (without f b Z)) ≡ cnt_by f x (drop_if t z (without f b Z))
      go true (equal e) q = q
      go false (unequal e) q = omega (arith, q, ap (δ x) (s z e))

-- the colour b becomes a
abbrev merge_if : Bool → ℕ → ℕ → ℕ
merge_if true a v = a
merge_if false a v = v

merge : ℕ → ℕ → ℕ → ℕ
merge a b v = merge_if (eqb b v) a v

merge_b : (a b : ℕ) → merge a b b ≡ a
unfolding merge
merge_b a b = go (eqb b b) (test b b)
  where
    go : (t : Bool) → Test b b t → merge_if t a b ≡ a
    go true (equal e) = refl
    go false (unequal e) = absurd (e refl)

merge_a : (a b : ℕ) → merge a b a ≡ a
unfolding merge
merge_a a b = go (eqb b a)
  where
    go : (t : Bool) → merge_if t a a ≡ a
    go true = refl
    go false = refl

merge_other : (a b v : ℕ) → (b ≡ v → ⊥) → merge a b v ≡ v
unfolding merge
merge_other a b v ne = go (eqb b v) (test b v)
  where
    go : (t : Bool) → Test b v t → merge_if t a v ≡ v
    go true (equal e) = absurd (ne e)
    go false (unequal e) = refl

-- a colouring of the keys that no misplaced slot leaves, and slots of colours that are all apart, and apart from the top's
pub record Apart (goal w : List ℕ) (φ : ℕ → ℕ) (Z : List ℕ) : Type 0 where
  pub same_length : length w ≡ length goal
  pub valid : (j : ℕ) → 0 < j → φ (at w j) ≡ φ (at goal j)
  pub slots : (j : ℕ) → 0 < cnt j Z → 0 < j
  pub wrong : (j : ℕ) → 0 < cnt j Z → at w j ≡ at goal j → ⊥
  pub once : (x : ℕ) → cnt_by (λ j. φ (at goal j)) x Z ≤ 1
  pub not_top : cnt_by (λ j. φ (at goal j)) (φ (at w 0)) Z ≡ 0

pub no_items : (Z : List ℕ) → ((j : ℕ) → 0 < cnt j Z → ⊥) → length Z ≡ 0
unfolding cnt_by
no_items [] h = refl
no_items (z ∷ Z) h = absurd (h z (omega (arith, δ_refl z)))

module _ (goal : List ℕ) where
  -- a swap that puts its slot right
  fix : (w : List ℕ) (d : ℕ) (φ : ℕ → ℕ) (Z : List ℕ) → 0 < d → d < length w → at w 0 ≡ at goal d → Apart goal w φ Z → Apart goal (swap_at w d) φ Z
  fix w d φ Z pos lt e a =
      let h : ℕ → ℕ = λ j. φ (at goal j) in
      let top : φ (at (swap_at w d) 0) ≡ φ (at w 0) = ap φ (swap_top w d pos lt) ∙ a.valid d pos ∙ ap φ (sym e) in
      let apart : (j : ℕ) → 0 < cnt j Z → j ≡ d → ⊥ = λ j q s.
      omega (arith, a.not_top, cnt_by_pos h j Z q, ap (λ (z : ℕ). cnt_by h (φ z) Z) (e ∙ ap (at goal) (sym s))) in
      record {
        same_length = swap_length w d pos lt ∙ a.same_length;
        valid = λ j q.
            elim (ℕ_discrete j d) [
              | yes s ↦ ap (λ (z : ℕ). φ (at (swap_at w d) z)) s ∙ ap φ (swap_slot w d pos lt ∙ e) ∙ ap (λ (z : ℕ). φ (at goal z)) (sym s)
              | no s ↦ ap φ (swap_other w d pos lt j q s) ∙ a.valid j q
            ];
        slots = a.slots;
        wrong = λ j q s. a.wrong j q (sym (swap_other w d pos lt j (a.slots j q) (apart j q)) ∙ s);
        once = a.once;
        not_top = ap (λ (z : ℕ). cnt_by h z Z) top ∙ a.not_top;
      }

  -- any other swap joins two colours
  join : (w : List ℕ) (d : ℕ) (φ : ℕ → ℕ) (Z : List ℕ) → 0 < d → d < length w → Apart goal w φ Z →
      Apart goal (swap_at w d) (λ k. merge (φ (at w 0)) (φ (at goal d)) (φ k)) (without (λ j. φ (at goal j)) (φ (at goal d)) Z)
  join w d φ Z pos lt a =
      let h : ℕ → ℕ = λ j. φ (at goal j) in
      let p : ℕ = φ (at w 0) in
      let b : ℕ = φ (at goal d) in
      let ψ : ℕ → ℕ = λ k. merge p b (φ k) in
      let Z' : List ℕ = without h b Z in
      let top : ψ (at (swap_at w d) 0) ≡ p = ap ψ (swap_top w d pos lt) ∙ ap (merge p b) (a.valid d pos) ∙ merge_b p b in
      let in-Z : (j : ℕ) → 0 < cnt j Z' → 0 < cnt j Z = λ j q. omega (arith, q, without_cnt h b itself j Z) in
      let apart : (j : ℕ) → 0 < cnt j Z' → j ≡ d → ⊥ = λ j q s.
      omega (arith, without_none h b Z, cnt_by_pos h j Z' q, ap (λ (z : ℕ). cnt_by h (h z) Z') s) in
      let same : (x : ℕ) → cnt_by (λ j. ψ (at goal j)) x Z' ≡ cnt_by h x Z' =
      λ x. without_same h b (λ j. ψ (at goal j)) (λ z ne. merge_other p b (h z) ne) x Z in
      record {
        same_length = swap_length w d pos lt ∙ a.same_length;
        valid = λ j q.
            elim (ℕ_discrete j d) [
              | yes s ↦
                  ap (λ (z : ℕ). ψ (at (swap_at w d) z)) s
                  ∙ ap ψ (swap_slot w d pos lt) ∙ merge_a p b ∙ sym (merge_b p b) ∙ ap (λ (z : ℕ). ψ (at goal z)) (sym s)
              | no s ↦ ap ψ (swap_other w d pos lt j q s) ∙ ap (merge p b) (a.valid j q)
            ];
        slots = λ j q. a.slots j (in-Z j q);
        wrong = λ j q s. a.wrong j (in-Z j q) (sym (swap_other w d pos lt j (a.slots j (in-Z j q)) (apart j q)) ∙ s);
        once = λ x. omega (arith, same x, without_cnt h b h x Z, a.once x);
        not_top = ap (λ (z : ℕ). cnt_by (λ j. ψ (at goal j)) z Z') top ∙ omega (arith, same p, without_cnt h b h p Z, a.not_top);
      }

  pub lower : (S w : List ℕ) (φ : ℕ → ℕ) (Z : List ℕ) → ((d : ℕ) → 0 < cnt d S → (0 < d) × (d < length w)) → run w S ≡ goal → Apart goal w φ Z →
      wrongs w goal + length Z ≤ length S
  unfolding run cnt_by
  lower [] w φ Z depths e a =
      omega (
        arith,
        ap (λ (z : List ℕ). wrongs z goal) e ∙ wrongs_same goal,
        no_items Z (λ j q. a.wrong j q (ap (λ (z : List ℕ). at z j) e)),
      )
  lower (d ∷ S) w φ Z depths e a =
      let here = depths d (omega (arith, δ_refl d)) in
      let w' : List ℕ = swap_at w d in
      let depths' : (j : ℕ) → 0 < cnt j S → (0 < j) × (j < length w') = λ j q.
      let r = depths j (omega (arith, q)) in
      (r.0, omega (arith, r.1, swap_length w d here.0 here.1)) in
      let count = wrongs_swap w goal d here.0 here.1 a.same_length in
      elim (ℕ_discrete (at w 0) (at goal d)) [
        | yes s ↦
            omega (
              arith,
              count,
              lower S w' φ Z depths' e (fix w d φ Z here.0 here.1 s a),
              ap (δ (at w 0)) (sym s),
              δ_refl (at w 0),
            )
        | no s ↦
            omega (
              arith,
              count,
              lower S w' (λ k. merge (φ (at w 0)) (φ (at goal d)) (φ k)) (without (λ j. φ (at goal j)) (φ (at goal d)) Z) depths' e (join w d φ Z here.0 here.1 a),
              without_length (λ j. φ (at goal j)) (φ (at goal d)) Z,
              a.once (φ (at goal d)),
              δ_neg (at w 0) (at goal d) s,
            )
      ]
