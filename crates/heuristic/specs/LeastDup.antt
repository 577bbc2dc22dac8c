-- The least Dup gas from the far end (document 02, U4): the Dups' prices are taken one by one, the deepest below dup_max first.
use Prim.Native.Nat.{ℕ, zero, suc, ◌+◌, ◌-◌, min, ◌≤◌, ◌<◌}
use Rattle.std.specs.Prelude.{◌≡◌, Bool, true, false, List, [], ◌∷◌, get_or, eqb, ltb}
use Rattle.std.proofs.Math.Path.{refl}
use Rattle.std.proofs.Common.{add-one, eqb-true, ltb-true, ltb-false}
use native.Mathlib.Omega.{arith}
use Rattle.std.proofs.lemmas.Bool.{eqb-false}
use Rattle.costs.specs.declared.Step.{Step}
use Rattle.costs.specs.declared.Step.TheVariants.{Dup}
use Rattle.heuristic.specs.Heuristic.{gas_of, least_dup}

-- the number in hand after i prices: the greatest u32 before the first, then the lesser of it and the gas of the next Dup, dup_max - 1 - i
unfoldable pub gas_in_hand : (prices : List ℕ) → (dup_max i : ℕ) → ℕ
gas_in_hand prices dup_max zero = 4294967295
gas_in_hand prices dup_max (suc i) = min (gas_in_hand prices dup_max i) (gas_of prices (Dup (dup_max - 1 - i)))

-- Dup p is among the first i taken: they are dup_max - 1, dup_max - 2 and so on down to dup_max - i
abbrev pub DupTaken : (dup_max i p : ℕ) → Type 0
DupTaken dup_max i p = (p < dup_max) × (dup_max ≤ p + i)

-- x is the least gas of the Dups taken so far: no more than that of any and that of one of them, or the greatest u32 before the first
pub record LeastTaken (prices : List ℕ) (dup_max i x : ℕ) : Type 0 where
  pub bound : (p : ℕ) → DupTaken dup_max i p → x ≤ gas_of prices (Dup p)
  pub met : 0 < i → (p : ℕ) × (DupTaken dup_max i p × (x ≡ gas_of prices (Dup p)))
  pub none : i ≡ 0 → x ≡ 4294967295

-- every price is a u32, as those of a lent list are
abbrev pub U32s : List ℕ → Type 0
U32s prices = (n : ℕ) → get_or prices n 0 ≤ 4294967295

gas_fits : (prices : List ℕ) → U32s prices → (s : Step) → gas_of prices s ≤ 4294967295
unfolding gas_of
gas_fits prices w s = w _

least_fits : (prices : List ℕ) (n : ℕ) → least_dup prices n ≤ 4294967295
unfolding least_dup
least_fits prices zero = omega arith
least_fits prices (suc n) = omega (arith, least_fits prices n)

least_more : (prices : List ℕ) (n : ℕ) → least_dup prices (suc n) ≡ min (least_dup prices n) (gas_of prices (Dup n))
unfolding least_dup
least_more prices n = refl

-- ---- one price more

module _ (prices : List ℕ) (dup_max : ℕ) where
  -- before the first price
  pub none_taken : gas_in_hand prices dup_max 0 ≡ 4294967295
  unfolding gas_in_hand
  none_taken = refl

  -- the Dup taken after i prices is dup_max - 1 - i
  pub next_taken : (i x g r : ℕ) → x ≡ gas_in_hand prices dup_max i → g ≡ gas_of prices (Dup (dup_max - 1 - i)) → r ≡ min x g → r ≡ gas_in_hand prices dup_max (i + 1)
  unfolding gas_in_hand
  next_taken i x g r a b e = rw (add-one i, ← a, ← b) e

  in_hand_fits : (i : ℕ) → gas_in_hand prices dup_max i ≤ 4294967295
  unfolding gas_in_hand
  in_hand_fits zero = omega arith
  in_hand_fits (suc i) = omega (arith, in_hand_fits i)

  -- ---- it is the least so far

  least_none : LeastTaken prices dup_max 0 4294967295
  least_none = record { bound = λ p t. absurd (omega (arith, t.0, t.1)); met = λ z. absurd (omega (arith, z)); none = λ e. refl }

  least_next : (i x g : ℕ) → i < dup_max → g ≡ gas_of prices (Dup (dup_max - 1 - i)) → g ≤ 4294967295 → LeastTaken prices dup_max i x → LeastTaken prices dup_max (suc i) (min x g)
  least_next i x g l e f t =
      record {
        bound = λ p s. below p s (eqb p (dup_max - 1 - i)) refl;
        met = λ z. one (ltb x g) refl;
        none = λ z. absurd (omega (arith, z));
      }
    where
      below : (p : ℕ) → DupTaken dup_max (suc i) p → (b : Bool) → eqb p (dup_max - 1 - i) ≡ b → min x g ≤ gas_of prices (Dup p)
      below p s true q = rw (eqb-true p (dup_max - 1 - i) q, ← e) (omega arith)
      below p s false q = omega (arith, t.bound p (s.0, omega (arith, s.0, s.1, eqb-false p (dup_max - 1 - i) q)))

      one : (b : Bool) → ltb x g ≡ b → (p : ℕ) × (DupTaken dup_max (suc i) p × (min x g ≡ gas_of prices (Dup p)))
      one true q =
          let m = t.met (go (eqb i 0) refl) in
          (m.0, ((m.1.0.0, omega (arith, m.1.0.1)), omega (arith, m.1.1, ltb-true x g q)))
        where
          go : (b : Bool) → eqb i 0 ≡ b → 0 < i
          go true z = absurd (omega (arith, t.none (eqb-true i 0 z), ltb-true x g q, f))
          go false z = omega (arith, eqb-false i 0 z)
      one false q = (dup_max - 1 - i, ((omega (arith, l), omega (arith, l)), omega (arith, e, ltb-false x g q)))

  -- after each price the number in hand is the least gas of the Dups taken so far
  pub least_taken : U32s prices → (i : ℕ) → i ≤ dup_max → LeastTaken prices dup_max i (gas_in_hand prices dup_max i)
  unfolding gas_in_hand
  least_taken w zero l = least_none
  least_taken w (suc i) l = least_next i (gas_in_hand prices dup_max i) (gas_of prices (Dup (dup_max - 1 - i))) (omega (arith, l)) refl (gas_fits prices w (Dup (dup_max - 1 - i))) (least_taken w i (omega (arith, l)))

  -- ---- it ends at the same number

  -- what is left decides: the number in hand and the least of the Dups not yet taken
  left_decides : (i : ℕ) → i ≤ dup_max → min (gas_in_hand prices dup_max i) (least_dup prices (dup_max - i)) ≡ least_dup prices dup_max
  unfolding gas_in_hand
  left_decides zero l = let o : dup_max - 0 ≡ dup_max = omega arith in rw o (omega (arith, least_fits prices dup_max))
  left_decides (suc i) l =
      let q : dup_max - i ≡ suc (dup_max - 1 - i) = omega (arith, l) in
      let s : least_dup prices (dup_max - i) ≡ min (least_dup prices (dup_max - 1 - i)) (gas_of prices (Dup (dup_max - 1 - i))) = rw q (least_more prices (dup_max - 1 - i)) in
      let o : dup_max - suc i ≡ dup_max - 1 - i = omega arith in
      rw o (omega (arith, s, left_decides i (omega (arith, l))))

  -- after all of them it is the least Dup gas that the heuristic names
  pub all_taken : gas_in_hand prices dup_max dup_max ≡ least_dup prices dup_max
  unfolding least_dup
  all_taken =
      let o : dup_max - dup_max ≡ 0 = omega arith in
      let h : min (gas_in_hand prices dup_max dup_max) (least_dup prices (dup_max - dup_max)) ≡ least_dup prices dup_max = left_decides dup_max (omega arith) in
      omega (arith, in_hand_fits dup_max, rw o at h)

-- Dups 0, 1 and 2 of gas 5, 3 and 4 at dup_max 3: in hand are the greatest u32, then 4, then 3, then 3
abbrev three : List ℕ
three = 2 ∷ 1 ∷ 5 ∷ 9 ∷ 3 ∷ 9 ∷ 4 ∷ 1 ∷ []

worked : (gas_in_hand three 3 0 ∷ gas_in_hand three 3 1 ∷ gas_in_hand three 3 2 ∷ gas_in_hand three 3 3 ∷ []) ≡ (4294967295 ∷ 4 ∷ 3 ∷ 3 ∷ [])
unfolding gas_in_hand gas_of
worked = refl
