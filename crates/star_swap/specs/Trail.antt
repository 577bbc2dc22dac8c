-- The trail: from a balanced list of slots it goes from its start to the balance's other key.
use Rattle.std.specs.Prelude.{◌≡◌, Bool, true, false, eqb}
use Rattle.std.proofs.Math.Path.{refl, ap}
use Rattle.std.proofs.Common.{sym, ◌∙◌, arith}
use mathlib.Core.List.{List, [], ◌∷◌}
use Prim.Native.Nat.{ℕ, zero, suc, ◌+◌, ◌*◌, ◌<◌}
use Rattle.std.proofs.Math.Decide.{ℕ_discrete}
use Rattle.std.proofs.Math.ListN.{length}
use Rattle.star_swap.specs.Count.{δ, cnt_by, Test, equal, unequal, test, δ_refl, δ_pos, δ_neg}
use Rattle.star_swap.specs.Star.{Pick, nothing, arc, pick_if, pick, key_of, Trail, trail_step, trail_loop, trail}

-- W, a list of slots, is a walk from a to b: each slot's goal key is where the one before it ended
unfoldable pub Walk : (g c : ℕ → ℕ) → ℕ → List ℕ → ℕ → Type 0
Walk g c a [] b = a ≡ b
Walk g c a (i ∷ W) b = (g i ≡ a) × Walk g c (c i) W b

-- the goal keys of R and v are, as a multiset, the present keys of R and k
abbrev pub Bal : (g c : ℕ → ℕ) → ℕ → ℕ → List ℕ → Type 0
Bal g c k v R = (x : ℕ) → cnt_by g x R + δ x v ≡ cnt_by c x R + δ x k

-- the stack's slots lead from the start to its top
unfoldable pub Stacked : (g c : ℕ → ℕ) → ℕ → List ℕ → Type 0
Stacked g c start [] = Unit {0}
Stacked g c start (s ∷ st) = (g s ≡ key_of c start st) × Stacked g c start st

-- what `pick` gives
abbrev pub Picked : (ℕ → ℕ) → ℕ → List ℕ → Pick → Type 0
Picked g k R nothing = cnt_by g k R ≡ 0
Picked g k R (arc i R') = (g i ≡ k) × ((f : ℕ → ℕ) (x : ℕ) → cnt_by f x R ≡ δ x (f i) + cnt_by f x R') × (length R ≡ suc (length R'))

pub pick_is : (g : ℕ → ℕ) (k : ℕ) (R : List ℕ) → Picked g k R (pick g k R)
unfolding pick cnt_by
pick_is g k [] = refl
pick_is g k (j ∷ R) = go (eqb (g j) k) (test (g j) k) (pick g k R) (pick_is g k R)
  where
    go : (t : Bool) → Test (g j) k t → (p : Pick) → Picked g k R p → Picked g k (j ∷ R) (pick_if t j R p)
    go true (equal e) p r = (e, (λ f x. refl), refl)
    go false (unequal e) nothing r = omega (arith, r, δ_neg k (g j) (λ h. e (sym h)))
    go false (unequal e) (arc i R') r = (r.0, (λ f x. omega (arith, r.1 f x)), omega arith)

module _ (g c : ℕ → ℕ) (start e : ℕ) where
  -- what a trail's end is to be, of the slots on the stack, in the output and left
  pub record Done (st out R : List ℕ) (t : Trail) : Type 0 where
    pub walk : Walk g c start t.out e
    pub bal : (x : ℕ) → cnt_by g x t.left ≡ cnt_by c x t.left
    pub spent : cnt_by g start t.left ≡ 0
    pub spent_out : (x : ℕ) → 0 < cnt_by c x t.out → cnt_by g x t.left ≡ 0
    pub total : (f : ℕ → ℕ) (x : ℕ) → cnt_by f x t.out + cnt_by f x t.left ≡ cnt_by f x st + cnt_by f x out + cnt_by f x R

  -- the loop's invariant leads to it, within the fuel n
  abbrev Holds : ℕ → (List ℕ → List ℕ → List ℕ → Trail) → Type 0
  Holds n next =
      (st out R : List ℕ) (v : ℕ) →
      2 * length R + length st < n →
      Stacked g c start st →
      Bal g c (key_of c start st) v R →
      Walk g c v out e →
      ((x : ℕ) → 0 < cnt_by c x out → cnt_by g x R ≡ 0) →
      Done st out R (next st out R)

  -- with no slot left that needs k, the balance's two keys are one
  meet : (k v : ℕ) (R : List ℕ) → cnt_by g k R ≡ 0 → Bal g c k v R → k ≡ v
  meet k v R none b = δ_pos k v (omega (arith, b k, δ_refl k))

  step : (n : ℕ) (next : List ℕ → List ℕ → List ℕ → Trail) → Holds n next → (st out R : List ℕ) (v : ℕ) →
      2 * length R + length st < suc n →
      Stacked g c start st →
      Bal g c (key_of c start st) v R →
      Walk g c v out e →
      ((x : ℕ) → 0 < cnt_by c x out → cnt_by g x R ≡ 0) →
      (p : Pick) → Picked g (key_of c start st) R p →
      Done st out R (trail_step st out R p next)
  unfolding Walk Stacked cnt_by
  step n next ih st out R v lt ok b w sp (arc i R') h =
      let b' : Bal g c (c i) v R' = λ x. omega (arith, b x, h.1 g x, h.1 c x, ap (δ x) h.0) in
      let d : Done (i ∷ st) out R' (next (i ∷ st) out R') = ih (i ∷ st) out R' v (omega arith) (h.0, ok) b' w (λ x q. omega (arith, sp x q, h.1 g x)) in
      record { walk = d.walk; bal = d.bal; spent = d.spent; spent_out = d.spent_out; total = λ f x. omega (arith, d.total f x, h.1 f x) }
  step n next ih [] out R v lt ok b w sp nothing h =
      let m : start ≡ v = meet start v R h b in
      record {
        walk = rw m w;
        bal = λ x. omega (arith, b x, ap (δ x) m);
        spent = h;
        spent_out = sp;
        total = λ f x. omega arith;
      }
  step n next ih (s ∷ st) out R v lt ok b w sp nothing h =
      let k : ℕ = key_of c start st in
      let m : c s ≡ v = meet (c s) v R h b in
      let b' : Bal g c k k R = λ x. omega (arith, b x, ap (δ x) m) in
      let w' : Walk g c (c s) out e = rw m w in
      let sp' : (x : ℕ) → 0 < cnt_by c x (s ∷ out) → cnt_by g x R ≡ 0 = λ x q.
      elim (ℕ_discrete x (c s)) [ yes y ↦ ap (λ (z : ℕ). cnt_by g z R) y ∙ h | no y ↦ sp x (omega (arith, q, δ_neg x (c s) y)) ] in
      let d : Done st (s ∷ out) R (next st (s ∷ out) R) = ih st (s ∷ out) R k (omega arith) ok.1 b' (ok.0, w') sp' in
      record { walk = d.walk; bal = d.bal; spent = d.spent; spent_out = d.spent_out; total = λ f x. omega (arith, d.total f x) }

  loop_holds : (n : ℕ) → Holds n (trail_loop g c start n)
  unfolding trail_loop
  loop_holds zero st out R v lt ok b w sp = absurd (omega arith)
  loop_holds (suc n) st out R v lt ok b w sp =
      step n (trail_loop g c start n) (loop_holds n) st out R v lt ok b w sp (pick g (key_of c start st) R) (pick_is g (key_of c start st) R)

  -- from a balanced list of slots the trail is a walk from the start to e, and leaves a balanced list in which no slot needs the start's key
  pub trail_done : (R : List ℕ) → Bal g c start e R → Done [] [] R (trail g c start R)
  unfolding trail Stacked Walk cnt_by
  trail_done R b = loop_holds (suc (2 * length R)) [] [] R e (omega arith) tt b refl (λ x q. absurd (omega arith))
