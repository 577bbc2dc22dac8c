-- The circuits of all the keys put every slot right.
use Rattle.std.specs.Prelude.{◌≡◌, length}
use Rattle.std.proofs.Math.Path.{refl, ap}
use Rattle.std.proofs.Common.{◌∙◌, arith}
use mathlib.Core.List.{List, []}
use Prim.Native.Nat.{ℕ, zero, suc, ◌+◌, ◌<◌}
use Rattle.std.proofs.Math.Decide.{ℕ_discrete, dec_lt}
use Rattle.star_swap.specs.Count.{cnt_by, cnt, itself, cnt_by_pos}
use Rattle.star_swap.specs.Star.{run, at, entered, Trail, trail, circuits}
use Rattle.star_swap.specs.Trail.{Done, trail_done}
use Rattle.star_swap.specs.Exec.{Slots, Ran}
use Rattle.star_swap.specs.Circuit.{run_append, run_circuit}

-- the slots of R hold their present keys, all others their goal keys
pub record Mixed (g c : ℕ → ℕ) (n : ℕ) (R w : List ℕ) : Type 0 where
  pub len : length w ≡ n
  pub slots : Slots n R
  pub present : (j : ℕ) → 0 < cnt j R → at w j ≡ c j
  pub done : (j : ℕ) → 0 < j → cnt j R ≡ 0 → at w j ≡ g j

module _ (g c : ℕ → ℕ) (n : ℕ) where
  -- a part of the slots is there to be run
  pub part_slots : (w W R R' : List ℕ) → Mixed g c n R w → ((j : ℕ) → cnt j W + cnt j R' ≡ cnt j R) → Slots (length w) W
  part_slots w W R R' m total =
      record {
        once = λ j. omega (arith, m.slots.once j, total j);
        low = λ j h. m.slots.low j (omega (arith, total j));
        high = λ j h. omega (arith, m.len, m.slots.high j (omega (arith, total j)));
      }

  pub part_present : (w W R R' : List ℕ) → Mixed g c n R w → ((j : ℕ) → cnt j W + cnt j R' ≡ cnt j R) → (j : ℕ) → 0 < cnt j W → at w j ≡ c j
  part_present w W R R' m total j h = m.present j (omega (arith, total j))

  -- and once it is run, the rest is left
  pub mixed_ran : (w W R R' w' : List ℕ) (b : ℕ) → Mixed g c n R w → ((j : ℕ) → cnt j W + cnt j R' ≡ cnt j R) → Ran g w W b w' → Mixed g c n R' w'
  mixed_ran w W R R' w' b m total r =
      record {
        len = r.len ∙ m.len;
        slots =
            record {
              once = λ j. omega (arith, m.slots.once j, total j);
              low = λ j h. m.slots.low j (omega (arith, total j));
              high = λ j h. m.slots.high j (omega (arith, total j));
            };
        present = λ j h.
            let in-R : 0 < cnt j R = omega (arith, total j) in
            r.kept j (m.slots.low j in-R) (omega (arith, total j, m.slots.once j)) ∙ m.present j in-R;
        done = λ j h e.
            elim (dec_lt 0 (cnt j W)) [
              | yes q ↦ r.fixed j q
              | no q ↦ r.kept j h (omega arith) ∙ m.done j h (omega (arith, total j))
            ];
      }

  pub circuits_run : (m k : ℕ) (R w : List ℕ) →
      Mixed g c n R w →
      ((x : ℕ) → cnt_by g x R ≡ cnt_by c x R) →
      ((x : ℕ) → x < k → cnt_by g x R ≡ 0) →
      ((j : ℕ) → 0 < cnt j R → g j < k + m) →
      (length (run w (circuits g c m k R)) ≡ n) × (at (run w (circuits g c m k R)) 0 ≡ at w 0) × ((j : ℕ) → 0 < j → at (run w (circuits g c m k R)) j ≡ g j)
  unfolding circuits run cnt_by
  circuits_run zero k R w x bal gone keys = (
    x.len,
    refl,
    λ j h.
        elim (dec_lt 0 (cnt j R)) [
          | yes q ↦ absurd (omega (arith, gone (g j) (omega (arith, keys j q)), cnt_by_pos g j R q))
          | no q ↦ x.done j h (omega arith)
        ],
  )
  circuits_run (suc m) k R w x bal gone keys =
      let t : Trail = trail g c k R in
      let d : Done g c k k [] [] R t = trail_done g c k k R (λ y. omega (arith, bal y)) in
      let W : List ℕ = t.out in
      let R' : List ℕ = t.left in
      let total : (f : ℕ → ℕ) (y : ℕ) → cnt_by f y W + cnt_by f y R' ≡ cnt_by f y R = λ f y. omega (arith, d.total f y) in
      let r : Ran g w W (at w 0) (run w (entered W)) =
      run_circuit g c W w k d.walk (part_present w W R R' x (total itself)) (part_slots w W R R' x (total itself)) in
      let w' : List ℕ = run w (entered W) in
      let gone' : (y : ℕ) → y < suc k → cnt_by g y R' ≡ 0 = λ y lt.
      elim (ℕ_discrete y k) [
        | yes e ↦ ap (λ (z : ℕ). cnt_by g z R') e ∙ d.spent
        | no e ↦ omega (arith, total g y, gone y (omega arith))
      ] in
      let y = circuits_run m (suc k) R' w' (mixed_ran w W R R' w' (at w 0) x (total itself) r) d.bal gone' (λ j h. omega (arith, keys j (omega (arith, total itself j)))) in
      rw (run_append (entered W) (circuits g c m (suc k) R') w)
      (y.0, y.1 ∙ r.top, y.2)
