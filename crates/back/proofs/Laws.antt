-- A read-back and its count, one state after the other.
use Rattle.std.proofs.Common.{◌≡◌, refl, sym, ◌∙◌, ◌⊎◌, inl, inr, true, false, Option, None, Some, List, ◌∷◌, ℕ, zero, suc, ◌+◌, ◌≤◌, ◌<◌, arith, eqb}
use Rattle.std.proofs.lemmas.Bool.{cases_Bool}
use Rattle.astar.specs.Search.{find, parent_in, read_back}
use Rattle.costs.specs.Laws.{some_injective}
use Rattle.algebra.specs.GasBytes.{gas_bytes}
use Rattle.window.specs.declared.PackedState.{PackedState}
use Rattle.window.specs.State.{whole}
use Rattle.lists.specs.View.{SearchNode}
use Rattle.offer.specs.Rules.{bare}
use Rattle.back.specs.Back.{count_back}

-- a parent is none, or one
abbrev pub HasParent : ℕ → List SearchNode → Type 0
HasParent v ns = (r : ℕ × ℕ) × (parent_in (find v ns) ≡ Some r)

parent_cases : (v : ℕ) (ns : List SearchNode) → (parent_in (find v ns) ≡ None) ⊎ HasParent v ns
parent_cases v ns = go (parent_in (find v ns))
  where
    go : (o : Option (ℕ × ℕ)) → (o ≡ None) ⊎ ((r : ℕ × ℕ) × (o ≡ Some r))
    go None = inl refl
    go (Some r) = inr (r, refl)

-- ---- the count

module _ (start : ℕ) (ns : List SearchNode) where
  pub count_zero : (v c : ℕ) → count_back start 0 ns v c ≡ None
  unfolding count_back
  count_zero v c = refl

  pub count_here : (j v c : ℕ) → eqb v start ≡ true → count_back start (suc j) ns v c ≡ Some c
  unfolding count_back
  count_here j v c e = rw e

  pub count_none : (j v c : ℕ) → eqb v start ≡ false → parent_in (find v ns) ≡ None → count_back start (suc j) ns v c ≡ None
  unfolding count_back
  count_none j v c e f = rw (e, f)

  pub count_on : (j v c p b : ℕ) → eqb v start ≡ false → parent_in (find v ns) ≡ Some (p, b) → count_back start (suc j) ns v c ≡ count_back start j ns p (suc c)
  unfolding count_back
  count_on j v c p b e f = rw (e, f)

  -- a count that is made goes on from a state that is not the start
  pub count_next : (j v c k : ℕ) → eqb v start ≡ false → count_back start (suc j) ns v c ≡ Some k → (h : HasParent v ns) × (count_back start j ns h.0.0 (suc c) ≡ Some k)
  count_next j v c k f e =
      elim (parent_cases v ns) [
        | inl p ↦ absurd (cc (count_none j v c f p))
        | inr h ↦ (h, sym (count_on j v c h.0.0 h.0.1 f h.1) ∙ e)
      ]

  -- a count onto c, of at most j states
  pub count_within : (j v c k : ℕ) → count_back start j ns v c ≡ Some k → (c ≤ k) × (k < c + j)
  count_within zero v c k e = absurd (cc (count_zero v c))
  count_within (suc j) v c k e =
      elim (cases_Bool (eqb v start)) [
        | inl t ↦ let q : c ≡ k = some_injective c k (sym (count_here j v c t) ∙ e) in (omega arith, omega arith)
        | inr f ↦ let n = count_next j v c k f e in let h = count_within j n.0.0.0 (suc c) k n.1 in (omega arith, omega arith)
      ]

-- ---- the steps

module _ (from to : PackedState) (ns : List SearchNode) where
  pub read_here : (j v : ℕ) (bs : List ℕ) → eqb v (whole from) ≡ true → read_back gas_bytes (bare (whole from) (whole to)) (suc j) ns v bs ≡ Some bs
  unfolding read_back
  read_here j v bs e = rw e

  read_none : (j v : ℕ) (bs : List ℕ) → eqb v (whole from) ≡ false → parent_in (find v ns) ≡ None → read_back gas_bytes (bare (whole from) (whole to)) (suc j) ns v bs ≡ None
  unfolding read_back
  read_none j v bs e f = rw (e, f)

  pub read_on : (j v p b : ℕ) (bs : List ℕ) → eqb v (whole from) ≡ false → parent_in (find v ns) ≡ Some (p, b) → read_back gas_bytes (bare (whole from) (whole to)) (suc j) ns v bs ≡ read_back gas_bytes (bare (whole from) (whole to)) j ns p (b ∷ bs)
  unfolding read_back
  read_on j v p b bs e f = rw (e, f)

  -- where there is no count there is no plan
  pub no_plan : (j v c : ℕ) (bs : List ℕ) → count_back (whole from) j ns v c ≡ None → read_back gas_bytes (bare (whole from) (whole to)) j ns v bs ≡ None
  unfolding read_back
  no_plan zero v c bs e = refl
  no_plan (suc j) v c bs e =
      elim (cases_Bool (eqb v (whole from))) [
        | inl t ↦ absurd (cc (count_here (whole from) ns j v c t))
        | inr f ↦ elim (parent_cases v ns) [
          | inl p ↦ read_none j v bs f p
          | inr h ↦ read_on j v h.0.0 h.0.1 bs f h.1 ∙ no_plan j h.0.0 (suc c) (h.0.1 ∷ bs) (sym (count_on (whole from) ns j v c h.0.0 h.0.1 f h.1) ∙ e)
        ]
      ]
