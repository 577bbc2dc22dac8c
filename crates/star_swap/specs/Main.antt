-- The swaps of star-swap turn the window into the goal.
use Rattle.std.specs.Prelude.{◌≡◌, refl, Bool, true, false, eqb, length}
use Rattle.std.proofs.Common.{sym, ◌∙◌, add-zero, ext_get_or}
use Rattle.std.proofs.Math.Path.{ap}
use mathlib.Core.List.{List, [], ◌∷◌}
use Prim.Native.Nat.{ℕ, zero, suc, ◌+◌, ◌≤◌, ◌<◌}
use native.Mathlib.Omega.{arith}
use Rattle.std.proofs.Math.Decide.{ℕ_discrete, dec_lt}
use Rattle.std.proofs.Math.ListN.{get_or-eq_default}
use Rattle.star_swap.specs.Count.{δ, cnt_by, cnt, itself, δ_refl, δ_neg, δ_le, Test, equal, unequal, test}
use Rattle.star_swap.specs.Star.{run, at, Trail, trail, circuits, slot_if, misplaced, star_swaps}
use Rattle.star_swap.specs.Trail.{Bal, Done, trail_done}
use Rattle.star_swap.specs.Exec.{Ran, run_walk}
use Rattle.star_swap.specs.Circuit.{run_append}
use Rattle.star_swap.specs.Circuits.{Mixed, part_slots, part_present, mixed_ran, circuits_run}

-- what the list of misplaced positions is, counted from p
pub record Missed (G C : ℕ → ℕ) (p : ℕ) (cur goal R : List ℕ) : Type 0 where
  pub once : (j : ℕ) → cnt j R ≤ 1
  pub low : (j : ℕ) → 0 < cnt j R → p ≤ j
  pub high : (j : ℕ) → 0 < cnt j R → j < p + length cur
  pub wrong : (j : ℕ) → 0 < cnt j R → C j ≡ G j → ⊥
  pub right : (i : ℕ) → i < length cur → cnt (p + i) R ≡ 0 → at cur i ≡ at goal i
  pub bal : (x : ℕ) → cnt_by G x R + cnt x cur ≡ cnt_by C x R + cnt x goal

module _ (G C : ℕ → ℕ) where
  missed : (p : ℕ) (cur goal : List ℕ) → length cur ≡ length goal →
      ((i : ℕ) → C (p + i) ≡ at cur i) → ((i : ℕ) → G (p + i) ≡ at goal i) →
      Missed G C p cur goal (misplaced p cur goal)
  unfolding misplaced cnt_by
  missed p [] [] e hc hg =
      record {
        once = λ j. omega arith;
        low = λ j h. absurd (omega arith);
        high = λ j h. absurd (omega arith);
        wrong = λ j h. absurd (omega arith);
        right = λ i h n. absurd (omega arith);
        bal = λ x. refl;
      }
  missed p [] (y ∷ goal) e hc hg = absurd (omega arith)
  missed p (x ∷ cur) [] e hc hg = absurd (omega arith)
  missed p (x ∷ cur) (y ∷ goal) e hc hg =
      go
      (missed (suc p) cur goal (omega arith)
      (λ i. ap C (shift i) ∙ hc (suc i))
      (λ i. ap G (shift i) ∙ hg (suc i)))
      (eqb x y)
      (test x y)
    where
      shift : (i : ℕ) → suc p + i ≡ p + suc i
      shift i = omega arith

      R : List ℕ
      R = misplaced (suc p) cur goal

      right_t : Missed G C (suc p) cur goal R → x ≡ y → (i : ℕ) → i < suc (length cur) → cnt (p + i) R ≡ 0 → at (x ∷ cur) i ≡ at (y ∷ goal) i
      right_t m q zero h n = q
      right_t m q (suc i) h n = m.right i (omega arith) (ap (λ (k : ℕ). cnt k R) (shift i) ∙ n)

      right_f : Missed G C (suc p) cur goal R → (i : ℕ) → i < suc (length cur) → δ (p + i) p + cnt (p + i) R ≡ 0 → at (x ∷ cur) i ≡ at (y ∷ goal) i
      right_f m zero h n = absurd (omega (arith, n, ap (λ (k : ℕ). δ k p) (add-zero p), δ_refl p))
      right_f m (suc i) h n = m.right i (omega arith) (ap (λ (k : ℕ). cnt k R) (shift i) ∙ omega (arith, n))

      c_p : C p ≡ x
      c_p = ap C (sym (add-zero p)) ∙ hc 0

      g_p : G p ≡ y
      g_p = ap G (sym (add-zero p)) ∙ hg 0

      go : Missed G C (suc p) cur goal R → (t : Bool) → Test x y t → Missed G C p (x ∷ cur) (y ∷ goal) (slot_if t p R)
      go m true (equal q) =
          record {
            once = m.once;
            low = λ j h. omega (arith, m.low j h);
            high = λ j h. omega (arith, m.high j h);
            wrong = m.wrong;
            right = right_t m q;
            bal = λ z. omega (arith, m.bal z, ap (δ z) q);
          }
      go m false (unequal q) =
          record {
            once = λ j.
                elim (dec_lt 0 (cnt j R)) [
                  | yes h ↦ omega (arith, m.once j, δ_neg j p (λ (e : j ≡ p). omega (arith, m.low j h, e)))
                  | no h ↦ omega (arith, δ_le j p)
                ];
            low = λ j h. elim (ℕ_discrete j p) [ yes e ↦ omega arith | no e ↦ omega (arith, m.low j (omega (arith, h, δ_neg j p e))) ];
            high = λ j h. elim (ℕ_discrete j p) [ yes e ↦ omega arith | no e ↦ omega (arith, m.high j (omega (arith, h, δ_neg j p e))) ];
            wrong = λ j h w.
                elim (ℕ_discrete j p) [
                  | yes e ↦ q (sym c_p ∙ ap C (sym e) ∙ w ∙ ap G e ∙ g_p)
                  | no e ↦ m.wrong j (omega (arith, h, δ_neg j p e)) w
                ];
            right = right_f m;
            bal = λ z. omega (arith, m.bal z, ap (δ z) c_p, ap (δ z) g_p);
          }

-- two windows with the same keys, each below 64
pub record Routable (cur goal : List ℕ) : Type 0 where
  pub same_length : length cur ≡ length goal
  pub same_keys : (k : ℕ) → cnt k cur ≡ cnt k goal
  pub keys : (i : ℕ) → i < length goal → at goal i < 64

module _ (x : ℕ) (cur : List ℕ) (y : ℕ) (goal : List ℕ) where
  one_on : (z : ℕ) (l : List ℕ) (i : ℕ) → at (z ∷ l) (1 + i) ≡ at l i
  one_on z l i = ap (at (z ∷ l)) {x = 1 + i} {y = suc i} (omega arith)

  pub first_missed : length cur ≡ length goal → Missed (at (y ∷ goal)) (at (x ∷ cur)) 1 cur goal (misplaced 1 cur goal)
  first_missed l = missed (at (y ∷ goal)) (at (x ∷ cur)) 1 cur goal l (one_on x cur) (one_on y goal)

  pub first_mixed : length cur ≡ length goal → Mixed (at (y ∷ goal)) (at (x ∷ cur)) (suc (length cur)) (misplaced 1 cur goal) (x ∷ cur)
  first_mixed l =
      let m : Missed (at (y ∷ goal)) (at (x ∷ cur)) 1 cur goal (misplaced 1 cur goal) = first_missed l in
      record {
        len = refl;
        slots = record { once = m.once; low = λ j q. omega (arith, m.low j q); high = λ j q. omega (arith, m.high j q) };
        present = λ j q. refl;
        done = done;
      }
    where
      done : (j : ℕ) → 0 < j → cnt j (misplaced 1 cur goal) ≡ 0 → at (x ∷ cur) j ≡ at (y ∷ goal) j
      done zero h e = absurd (omega arith)
      done (suc i) h e =
          elim (dec_lt i (length cur)) [
            | yes q ↦ (first_missed l).right i q (ap (λ (k : ℕ). cnt k (misplaced 1 cur goal)) {x = 1 + i} {y = suc i} (omega arith) ∙ e)
            | no q ↦ get_or-eq_default cur 0 (omega arith) ∙ sym (get_or-eq_default goal 0 (omega arith))
          ]

pub star_reaches : (cur goal : List ℕ) → Routable cur goal → run cur (star_swaps cur goal) ≡ goal
unfolding star_swaps run cnt_by
star_reaches [] [] h = refl
star_reaches [] (y ∷ goal) h = absurd (omega (arith, h.same_length))
star_reaches (x ∷ cur) [] h = absurd (omega (arith, h.same_length))
star_reaches (x ∷ cur) (y ∷ goal) h =
    let g : ℕ → ℕ = at (y ∷ goal) in
    let c : ℕ → ℕ = at (x ∷ cur) in
    let n : ℕ = suc (length cur) in
    let R : List ℕ = misplaced 1 cur goal in
    let w : List ℕ = x ∷ cur in
    let l : length cur ≡ length goal = omega (arith, h.same_length) in
    let m : Missed g c 1 cur goal R = first_missed x cur y goal l in
    let b : Bal g c x y R = λ k. omega (arith, m.bal k, h.same_keys k) in
    let t : Trail = trail g c x R in
    let d : Done g c x y [] [] R t = trail_done g c x y R b in
    let W : List ℕ = t.out in
    let R' : List ℕ = t.left in
    let total : (f : ℕ → ℕ) (k : ℕ) → cnt_by f k W + cnt_by f k R' ≡ cnt_by f k R = λ f k. omega (arith, d.total f k) in
    let mixed : Mixed g c n R w = first_mixed x cur y goal l in
    let r : Ran g w W y (run w W) =
    run_walk g c W w y d.walk (part_present g c n w W R R' mixed (total itself)) (part_slots g c n w W R R' mixed (total itself)) in
    let z =
    circuits_run g c n 64 0 R' (run w W) (mixed_ran g c n w W R R' (run w W) y mixed (total itself) r) d.bal
    (λ k q. absurd (omega arith))
    (λ j q. h.keys j (omega (arith, m.high j (omega (arith, q, total itself j))))) in
    let at_each : (i : ℕ) → at (run (run w W) (circuits g c 64 0 R')) i ≡ at (y ∷ goal) i =
    λ i. elim i as (λ k. at (run (run w W) (circuits g c 64 0 R')) k ≡ at (y ∷ goal) k) [ zero ↦ z.1 ∙ r.top | suc j ↦ z.2 (suc j) (omega arith) ] in
    rw (run_append W (circuits g c 64 0 R') w)
    (ext_get_or 0 (run (run w W) (circuits g c 64 0 R')) (y ∷ goal) (z.0 ∙ ap suc l) (λ i q. at_each i))
