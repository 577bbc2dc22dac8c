-- Star-swap's list is as short as any: its circuits have colours of their own.
use Rattle.std.specs.Prelude.{◌≡◌, Bool, eqb}
use Rattle.std.proofs.Math.Path.{refl, sym, ap, subst⁻¹}
use Rattle.std.proofs.Common.{◌∙◌, length-append}
use Rattle.std.proofs.Math.Bool.{true, false}
use mathlib.Core.List.{List, [], ◌∷◌, ◌++◌}
use Prim.Native.Nat.{ℕ, zero, suc, ◌+◌, ◌≤◌, ◌<◌}
use native.Mathlib.Omega.{arith}
use Rattle.std.proofs.Math.Decide.{ℕ_discrete, dec_lt}
use Rattle.std.proofs.Math.ListN.{length}
use Rattle.star_swap.specs.Count.{δ, cnt_by, cnt, itself, cnt_by_pos, δ_refl, δ_neg, δ_le, Test, equal, unequal, test}
use Rattle.star_swap.specs.Star.{at, run, last_of, entered, Trail, trail, circuits, misplaced, star_swaps}
use Rattle.star_swap.specs.Trail.{Bal, Done, trail_done}
use Rattle.star_swap.specs.Main.{Missed, first_missed, first_mixed, Routable}
use Rattle.star_swap.specs.Steps.{flat, cnt_by_flat, last_in, wrong_slots}
use Rattle.star_swap.specs.Lower.{Apart, lower, no_items}

-- counts of a list under two functions that agree on its items
cnt_by_cong : (f f' : ℕ → ℕ) (x : ℕ) (Z : List ℕ) → ((z : ℕ) → 0 < cnt z Z → f z ≡ f' z) → cnt_by f x Z ≡ cnt_by f' x Z
unfolding cnt_by
cnt_by_cong f f' x [] h = refl
cnt_by_cong f f' x (z ∷ Z) h =
    omega (arith, ap (δ x) (h z (omega (arith, δ_refl z))), cnt_by_cong f f' x Z (λ y q. h y (omega arith)))

abbrev paint_if : Bool → ℕ → ℕ → ℕ
paint_if true a v = v
paint_if false a v = a

-- the keys that W needs get the colour a
paint : (g : ℕ → ℕ) (W : List ℕ) → ℕ → (ℕ → ℕ) → ℕ → ℕ
paint g W a φ x = paint_if (eqb (cnt_by g x W) 0) a (φ x)

module _ (g : ℕ → ℕ) (W : List ℕ) (a : ℕ) (φ : ℕ → ℕ) (x : ℕ) where
  paint_in : 0 < cnt_by g x W → paint g W a φ x ≡ a
  unfolding paint
  paint_in h = go (eqb (cnt_by g x W) 0) (test (cnt_by g x W) 0)
    where
      go : (t : Bool) → Test (cnt_by g x W) 0 t → paint_if t a (φ x) ≡ a
      go true (equal e) = absurd (omega arith)
      go false (unequal e) = refl

  paint_out : cnt_by g x W ≡ 0 → paint g W a φ x ≡ φ x
  unfolding paint
  paint_out h = go (eqb (cnt_by g x W) 0) (test (cnt_by g x W) 0)
    where
      go : (t : Bool) → Test (cnt_by g x W) 0 t → paint_if t a (φ x) ≡ φ x
      go true (equal e) = refl
      go false (unequal e) = absurd (e h)

module _ (g c : ℕ → ℕ) where
  -- a colouring of the keys of R, and a slot of each circuit that is to come, from the key k on; n is the circuits' length
  pub record Coloured (k : ℕ) (R : List ℕ) (n : ℕ) : Type 0 where
    pub φ : ℕ → ℕ
    pub Z : List ℕ
    pub same : (j : ℕ) → 0 < cnt j R → φ (c j) ≡ φ (g j)
    pub blank : (x : ℕ) → cnt_by g x R ≡ 0 → φ x ≡ 0
    pub among : (j : ℕ) → 0 < cnt j Z → 0 < cnt j R
    pub once : (x : ℕ) → cnt_by (λ j. φ (g j)) x Z ≤ 1
    pub above : (x : ℕ) → x ≤ k → cnt_by (λ j. φ (g j)) x Z ≡ 0
    pub count : n ≡ length R + length Z

  -- a circuit W, through its slot z, gets the colour of its key
  module _ (k : ℕ) (R W R' : List ℕ) (z n : ℕ)
      (bal : (x : ℕ) → cnt_by g x R ≡ cnt_by c x R)
      (total : (f : ℕ → ℕ) (y : ℕ) → cnt_by f y W + cnt_by f y R' ≡ cnt_by f y R)
      (bal' : (y : ℕ) → cnt_by g y R' ≡ cnt_by c y R')
      (spent : (y : ℕ) → 0 < cnt_by c y W → cnt_by g y R' ≡ 0)
      (in-W : 0 < cnt z W)
      (i : Coloured (suc k) R' n) where
    ψ : ℕ → ℕ
    ψ = paint g W (suc k) i.φ

    bal-W : (y : ℕ) → cnt_by g y W ≡ cnt_by c y W
    bal-W y = omega (arith, total g y, total c y, bal y, bal' y)

    -- the keys of what is left are not W's
    left_g : (j : ℕ) → 0 < cnt j R' → ψ (g j) ≡ i.φ (g j)
    unfolding ψ
    left_g j q =
        paint_out g W (suc k) i.φ (g j)
        (elim (dec_lt 0 (cnt_by g (g j) W)) [
          | yes p ↦ absurd (omega (arith, spent (g j) (omega (arith, p, bal-W (g j))), cnt_by_pos g j R' q))
          | no p ↦ omega arith
        ])

    left_c : (j : ℕ) → 0 < cnt j R' → ψ (c j) ≡ i.φ (c j)
    unfolding ψ
    left_c j q =
        paint_out g W (suc k) i.φ (c j)
        (elim (dec_lt 0 (cnt_by g (c j) W)) [
          | yes p ↦ absurd (omega (arith, spent (c j) (omega (arith, p, bal-W (c j))), bal' (c j), cnt_by_pos c j R' q))
          | no p ↦ omega arith
        ])

    here_g : (j : ℕ) → 0 < cnt j W → ψ (g j) ≡ suc k
    unfolding ψ
    here_g j q = paint_in g W (suc k) i.φ (g j) (cnt_by_pos g j W q)

    here_c : (j : ℕ) → 0 < cnt j W → ψ (c j) ≡ suc k
    unfolding ψ
    here_c j q = paint_in g W (suc k) i.φ (c j) (omega (arith, bal-W (c j), cnt_by_pos c j W q))

    alike : (x : ℕ) → cnt_by (λ j. ψ (g j)) x i.Z ≡ cnt_by (λ j. i.φ (g j)) x i.Z
    alike x = cnt_by_cong (λ j. ψ (g j)) (λ j. i.φ (g j)) x i.Z (λ j q. left_g j (i.among j q))

    extend : Coloured k R (suc (length W) + n)
    unfolding cnt_by
    extend =
        record {
          φ = ψ;
          Z = z ∷ i.Z;
          same = λ j q.
              elim (dec_lt 0 (cnt j W)) [
                | yes p ↦ here_c j p ∙ sym (here_g j p)
                | no p ↦
                    let r : 0 < cnt j R' = omega (arith, total itself j) in
                    left_c j r ∙ i.same j r ∙ sym (left_g j r)
              ];
          blank = λ x q. unfold ψ in (paint_out g W (suc k) i.φ x (omega (arith, total g x, q)) ∙ i.blank x (omega (arith, total g x, q)));
          among = λ j q.
              elim (ℕ_discrete j z) [
                | yes e ↦ subst⁻¹ (λ (y : ℕ). 0 < cnt y R) e (omega (arith, total itself z))
                | no e ↦ omega (arith, total itself j, i.among j (omega (arith, q, δ_neg j z e)))
              ];
          once = λ x.
              elim (ℕ_discrete x (suc k)) [
                | yes e ↦ omega (arith, alike x, i.above x (omega arith), δ_le x (ψ (g z)))
                | no e ↦ omega (arith, alike x, i.once x, δ_neg x (ψ (g z)) (λ q. e (q ∙ here_g z in-W)))
              ];
          above = λ x q.
              omega (arith, alike x, i.above x (omega arith), δ_neg x (ψ (g z)) (λ s. omega (arith, s ∙ here_g z in-W)));
          count = omega (arith, i.count, total flat 0, cnt_by_flat W, cnt_by_flat R', cnt_by_flat R);
        }

  pub coloured : (m k : ℕ) (R : List ℕ) →
      ((x : ℕ) → cnt_by g x R ≡ cnt_by c x R) →
      ((x : ℕ) → x < k → cnt_by g x R ≡ 0) →
      ((j : ℕ) → 0 < cnt j R → g j < k + m) →
      Coloured k R (length (circuits g c m k R))
  unfolding circuits cnt_by
  coloured zero k R bal gone keys =
      let none : length R ≡ 0 = no_items R (λ j q. omega (arith, gone (g j) (omega (arith, keys j q)), cnt_by_pos g j R q)) in
      record {
        φ = λ x. 0;
        Z = [];
        same = λ j q. refl;
        blank = λ x q. refl;
        among = λ j q. absurd (omega arith);
        once = λ x. omega arith;
        above = λ x q. refl;
        count = omega arith;
      }
  coloured (suc m) k R bal gone keys =
      let t : Trail = trail g c k R in
      let d : Done g c k k [] [] R t = trail_done g c k k R (λ y. omega (arith, bal y)) in
      let total : (f : ℕ → ℕ) (y : ℕ) → cnt_by f y t.out + cnt_by f y t.left ≡ cnt_by f y R = λ f y. omega (arith, d.total f y) in
      let gone' : (y : ℕ) → y < suc k → cnt_by g y t.left ≡ 0 = λ y lt.
      elim (ℕ_discrete y k) [
        | yes e ↦ ap (λ (z : ℕ). cnt_by g z t.left) e ∙ d.spent
        | no e ↦ omega (arith, total g y, gone y (omega arith))
      ] in
      let i : Coloured (suc k) t.left (length (circuits g c m (suc k) t.left)) =
      coloured m (suc k) t.left d.bal gone' (λ j q. omega (arith, keys j (omega (arith, total itself j)))) in
      go t.out t.left (circuits g c m (suc k) t.left) total d.bal d.spent_out i
    where
      go : (W R' rest : List ℕ) →
          ((f : ℕ → ℕ) (y : ℕ) → cnt_by f y W + cnt_by f y R' ≡ cnt_by f y R) →
          ((y : ℕ) → cnt_by g y R' ≡ cnt_by c y R') →
          ((y : ℕ) → 0 < cnt_by c y W → cnt_by g y R' ≡ 0) →
          Coloured (suc k) R' (length rest) →
          Coloured k R (length (entered W ++ rest))
      go [] R' rest total bal' spent i =
          record {
            φ = i.φ;
            Z = i.Z;
            same = λ j q. i.same j (omega (arith, total itself j));
            blank = λ x q. i.blank x (omega (arith, total g x, q));
            among = λ j q. omega (arith, total itself j, i.among j q);
            once = i.once;
            above = λ x q. i.above x (omega arith);
            count = omega (arith, i.count, total flat 0, cnt_by_flat R', cnt_by_flat R);
          }
      go (x ∷ l) R' rest total bal' spent i =
          subst⁻¹
          (Coloured k R)
          (length-append (entered (x ∷ l)) rest)
          (extend k R (x ∷ l) R' (last_of (x ∷ l)) (length rest) bal total bal' spent (last_in x l) i)

-- what a sequence of swaps has to be: depths from 1 to below the length, and the goal at its end
pub record Reaches (cur goal S : List ℕ) : Type 0 where
  pub depths : (d : ℕ) → 0 < cnt d S → (0 < d) × (d < length cur)
  pub ends : run cur S ≡ goal

pub star_least : (cur goal : List ℕ) → Routable cur goal → (S : List ℕ) → Reaches cur goal S → length (star_swaps cur goal) ≤ length S
unfolding star_swaps wrong_slots cnt_by
star_least [] goal h S r = omega arith
star_least (x ∷ cur) [] h S r = omega arith
star_least (x ∷ cur) (y ∷ goal) h S r =
    let g : ℕ → ℕ = at (y ∷ goal) in
    let c : ℕ → ℕ = at (x ∷ cur) in
    let R : List ℕ = misplaced 1 cur goal in
    let len : length cur ≡ length goal = omega (arith, h.same_length) in
    let m : Missed g c 1 cur goal R = first_missed x cur y goal len in
    let b : Bal g c x y R = λ k. omega (arith, m.bal k, h.same_keys k) in
    let t : Trail = trail g c x R in
    let d : Done g c x y [] [] R t = trail_done g c x y R b in
    let W : List ℕ = t.out in
    let R' : List ℕ = t.left in
    let total : (f : ℕ → ℕ) (k : ℕ) → cnt_by f k W + cnt_by f k R' ≡ cnt_by f k R = λ f k. omega (arith, d.total f k) in
    let i : Coloured g c 0 R' (length (circuits g c 64 0 R')) =
    coloured g c 64 0 R' d.bal (λ k q. absurd (omega arith)) (λ j q. h.keys j (omega (arith, m.high j (omega (arith, q, total itself j))))) in
    -- the trail's keys are blank
    let spent-g : (j : ℕ) → 0 < cnt j W → cnt_by g (g j) R' ≡ 0 = λ j q.
    elim (ℕ_discrete (g j) x) [
      | yes e ↦ ap (λ (z : ℕ). cnt_by g z R') e ∙ d.spent
      | no e ↦
          d.spent_out (g j)
          (omega (arith, cnt_by_pos g j W q, total g (g j), total c (g j), b (g j), d.bal (g j), δ_neg (g j) x e))
    ] in
    let a : Apart (y ∷ goal) (x ∷ cur) i.φ i.Z =
    record {
      same_length = h.same_length;
      valid = λ j q.
          elim (dec_lt 0 (cnt j R)) [
            | yes p ↦
                elim (dec_lt 0 (cnt j W)) [
                  | yes w ↦ omega (arith, i.blank (c j) (d.spent_out (c j) (cnt_by_pos c j W w)), i.blank (g j) (spent-g j w))
                  | no w ↦ i.same j (omega (arith, p, total itself j))
                ]
            | no p ↦ ap i.φ ((first_mixed x cur y goal len).done j q (omega arith))
          ];
      slots = λ j q. omega (arith, m.low j (omega (arith, total itself j, i.among j q)));
      wrong = λ j q. m.wrong j (omega (arith, total itself j, i.among j q));
      once = i.once;
      not_top = rw (i.blank x d.spent) (i.above 0 (omega arith));
    } in
    omega (
      arith,
      lower (y ∷ goal) S (x ∷ cur) i.φ i.Z r.depths r.ends a,
      i.count,
      total flat 0,
      cnt_by_flat W,
      cnt_by_flat R',
      cnt_by_flat R,
      length-append W (circuits g c 64 0 R'),
    )
