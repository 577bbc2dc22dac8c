-- How the lists of slots by key are made, from the last slot up.
use Rattle.std.specs.Prelude.{◌≡◌, Bool, true, false, Option, eqb, drop}
use Rattle.std.proofs.Math.Path.{refl, subst⁻¹}
use Rattle.std.proofs.Common.{sym, ◌∙◌, arith, length-set, drop_of_length-le, get_or-set_same, get_or-set_other}
use mathlib.Core.List.{List, [], ◌∷◌}
use Prim.Native.Nat.{ℕ, suc, ◌≤◌, ◌<◌}
use Rattle.std.proofs.Math.Decide.{ℕ_discrete}
use Rattle.std.proofs.Math.ListN.{length, set}
use Rattle.std.proofs.lemmas.List.{get_or-replicate}
use Rattle.std.proofs.Math.Seq.{drop-cons}
use Rattle.star_swap.specs.Count.{Test, equal, unequal, test}
use Rattle.star_swap.specs.Star.{at, slot_if, misplaced}
use Rattle.star_swap.specs.Chain.{is_none, is_slot, byte, slot, arcs_of, no_arcs, Chain, Chained, need_if, needing, needs_take, needs_skip}
use Rattle.star_swap.specs.declared.Arcs.{Arcs}

-- every item is above p
unfoldable pub Above : ℕ → List ℕ → Type 0
Above p [] = Unit {0}
Above p (i ∷ l) = (p < i) × Above p l

above_less : (p q : ℕ) (l : List ℕ) → q ≤ p → Above p l → Above q l
unfolding Above
above_less p q [] h a = tt
above_less p q (i ∷ l) h a = (omega (arith, a.0), above_less p q l h a.1)

above_needing : (g : ℕ → ℕ) (k p : ℕ) (R : List ℕ) → Above p R → Above p (needing g k R)
unfolding Above needing
above_needing g k p [] a = tt
above_needing g k p (j ∷ R) a = go (eqb (g j) k) (above_needing g k p R a.1)
  where
    go : (t : Bool) → Above p (needing g k R) → Above p (need_if t j (needing g k R))
    go true b = (a.0, b)
    go false b = b

above_misplaced : (p : ℕ) (cur goal : List ℕ) → Above p (misplaced (suc p) cur goal)
unfolding Above misplaced
above_misplaced p [] goal = tt
above_misplaced p (x ∷ cur) [] = tt
above_misplaced p (x ∷ cur) (y ∷ goal) = go (eqb x y) (above_less (suc p) p (misplaced (suc (suc p)) cur goal) (omega arith) (above_misplaced (suc p) cur goal))
  where
    go : (t : Bool) → Above p (misplaced (suc (suc p)) cur goal) → Above p (slot_if t (suc p) (misplaced (suc (suc p)) cur goal))
    go true b = b
    go false b = (omega arith, b)

-- a store to `next` below a list leaves it
chain_set : (n : ℕ) (next : List ℕ) (p v : ℕ) (h : Option ℕ) (l : List ℕ) → Above p l → Chain n next h l → Chain n (set next p v) h l
unfolding Above Chain
chain_set n next p v h [] a c = c
chain_set n next p v h (i ∷ l) a c =
    (c.0, c.1, rw (get_or-set_other next p i v 255 (omega (arith, a.0))) (chain_set n next p v (slot next i) l a.1 c.2))

-- one more slot, in front of its key's list
link_one : (n : ℕ) (g : ℕ → ℕ) (R : List ℕ) (head next : List ℕ) (p : ℕ) → length head ≡ 64 → length next ≡ 21 → p < n → n ≤ 21 → g p < 64 → Above p R →
    Chained n g R (arcs_of head next) → Chained n g (p ∷ R) (arcs_of (set head (g p) p) (set next p (byte head (g p))))
unfolding Chained
link_one n g R head next p lh ln lt short low a h k kl =
    elim (ℕ_discrete k (g p)) [
      | yes e ↦
          subst⁻¹
          (λ (z : ℕ). Chain n next' (slot head' z) (needing g z (p ∷ R)))
          e
          (rw (get_or-set_same head (g p) p 255 (omega arith), is_slot p (λ e. omega arith), needs_take g (g p) p R refl)
          (unfold Chain in (
            refl,
            lt,
            rw (get_or-set_same next p (byte head (g p)) 255 (omega arith))
                (chain_set n next p (byte head (g p)) (slot head (g p)) (needing g (g p) R) (above_needing g (g p) p R a) (h (g p) low)),
          )))
      | no e ↦
          rw (get_or-set_other head (g p) k p 255 e, needs_skip g k p R (λ q. e (sym q)))
          (chain_set n next p (byte head (g p)) (slot head k) (needing g k R) (above_needing g k p R a) (h k kl))
    ]
  where
    head' : List ℕ
    head' = set head (g p) p

    next' : List ℕ
    next' = set next p (byte head (g p))

-- the misplaced slots from p on
unfoldable pub from : (cur goal : List ℕ) → ℕ → List ℕ
from cur goal p = misplaced p (drop p cur) (drop p goal)

module _ (cur goal : List ℕ) (same : length cur ≡ length goal) where
  from_step : (p : ℕ) → p < length cur → from cur goal p ≡ slot_if (eqb (at cur p) (at goal p)) p (from cur goal (suc p))
  unfolding from
  from_step p h = rw (drop-cons cur p 0 h, drop-cons goal p 0 (omega arith)) (unfold misplaced in refl)

  pub from_right : (p : ℕ) → p < length cur → at cur p ≡ at goal p → from cur goal p ≡ from cur goal (suc p)
  from_right p h e = from_step p h ∙ go (eqb (at cur p) (at goal p)) (test (at cur p) (at goal p))
    where
      go : (t : Bool) → Test (at cur p) (at goal p) t → slot_if t p (from cur goal (suc p)) ≡ from cur goal (suc p)
      go true (equal q) = refl
      go false (unequal q) = absurd (q e)

  pub from_wrong : (p : ℕ) → p < length cur → (at cur p ≡ at goal p → ⊥) → from cur goal p ≡ p ∷ from cur goal (suc p)
  from_wrong p h ne = from_step p h ∙ go (eqb (at cur p) (at goal p)) (test (at cur p) (at goal p))
    where
      go : (t : Bool) → Test (at cur p) (at goal p) t → slot_if t p (from cur goal (suc p)) ≡ p ∷ from cur goal (suc p)
      go true (equal q) = absurd (ne q)
      go false (unequal q) = refl

  pub from_end : from cur goal (length cur) ≡ []
  unfolding from misplaced
  from_end = rw (drop_of_length-le cur {i = length cur} (omega arith)) refl

  pub record Linked (p : ℕ) (arcs : Arcs) : Type 0 where
    pub head_length : length arcs.head ≡ 64
    pub next_length : length arcs.next ≡ 21
    pub held : Chained (length cur) (at goal) (from cur goal p) arcs

  pub linked_start : (p : ℕ) → p ≡ length cur → Linked p no_arcs
  unfolding Chained needing Chain
  linked_start p e =
      record { head_length = refl; next_length = refl; held = λ k lt. rw (e, from_end, get_or-replicate {A = ℕ} 64 k 255 255 lt) is_none }

  module _ (short : length cur ≤ 21) (p : ℕ) (arcs : Arcs) (h : p < length cur) (l : Linked (suc p) arcs) where
    pub link_right : at cur p ≡ at goal p → Linked p arcs
    link_right e =
        record { head_length = l.head_length; next_length = l.next_length; held = rw (from_right p h e) l.held }

    pub link_wrong : at goal p < 64 → (at cur p ≡ at goal p → ⊥) → Linked p (arcs_of (set arcs.head (at goal p) p) (set arcs.next p (byte arcs.head (at goal p))))
    link_wrong low ne =
        record {
          head_length = length-set arcs.head (at goal p) p ∙ l.head_length;
          next_length = length-set arcs.next p (byte arcs.head (at goal p)) ∙ l.next_length;
          held =
              rw (from_wrong p h ne)
              (link_one (length cur) (at goal) (from cur goal (suc p)) arcs.head arcs.next p l.head_length l.next_length h short low
              (unfold from in above_misplaced p (drop (suc p) cur) (drop (suc p) goal)) l.held);
        }
