-- Refusal 9 is not given exactly where the windows agree as star-swap asks.
use Rattle.std.specs.Prelude.{ℕ, zero, suc, ◌+◌, ◌-◌, ◌<◌, ◌≤◌, Bool, true, false, not, ◌||◌, List, [], ◌∷◌, ◌≡◌, refl, length, drop, eqb}
use Rattle.std.proofs.Common.{ap, sym, ◌∙◌, arith, eqb-true, eq-eqb, ne_eqb, length-drop, get_or-drop, ext_get_or}
use Rattle.std.proofs.Math.Decide.{ℕ_discrete, dec_lt}
use Rattle.std.proofs.lemmas.Bool.{not-false}
use Rattle.costs.specs.Laws.{or_left}
use Rattle.costs.specs.Table.{count_of}
use Rattle.replay.specs.Laws.{and_left, and_right}
use Rattle.star_swap.specs.Count.{cnt, cnt_by, δ, δ_refl, δ_neg}
use Rattle.star_swap.specs.Star.{at}
use Rattle.star_swap.specs.StarCode.{Pair}
use Rattle.star_swap.specs.Routes.{Routed, placed_all}
use Rattle.star_swap.specs.Tests.{or_right}
use Rattle.star_swap.specs.Refusal.{same_counts, are_keys_same, unroutable}

-- each key that stands in the window is below 64
abbrev pub Small : List ℕ → Type 0
Small w = (x : ℕ) → 0 < cnt x w → x < 64

pub small_of : (w : List ℕ) → ((i : ℕ) → i < length w → at w i < 64) → Small w
unfolding cnt_by
small_of [] h k p = absurd (omega arith)
small_of (x ∷ w) h k p =
    elim (ℕ_discrete k x) [
      | yes e ↦ omega (arith, h 0 (omega arith))
      | no e ↦ small_of w (λ i l. h (suc i) (omega arith)) k (omega (arith, δ_neg k x e))
    ]

stands : (w : List ℕ) (i : ℕ) → i < length w → 0 < cnt (at w i) w
unfolding cnt_by
stands [] i h = absurd (omega arith)
stands (x ∷ w) zero h = omega (arith, δ_refl x)
stands (x ∷ w) (suc i) h = omega (arith, stands w i (omega arith))

pub small_at : (w : List ℕ) → Small w → (i : ℕ) → i < length w → at w i < 64
small_at w h i l = h (at w i) (stands w i l)

-- the two ways to count
pub count_is : (k : ℕ) (w : List ℕ) → count_of k w ≡ cnt k w
unfolding cnt_by
count_is k [] = refl
count_is k (x ∷ w) =
    elim (ℕ_discrete x k) [
      | yes e ↦ let d : δ k x ≡ 1 = ap (δ k) e ∙ δ_refl k in rw (eq-eqb x k e) (omega (arith, count_is k w))
      | no e ↦ let d : δ k x ≡ 0 = δ_neg k x (λ f. e (sym f)) in rw (ne_eqb x k e) (omega (arith, count_is k w))
    ]

counts_agree : (n : ℕ) (a b : List ℕ) → same_counts n a b ≡ true → (k : ℕ) → k < n → cnt k a ≡ cnt k b
counts_agree zero a b h k l = absurd (omega arith)
counts_agree (suc n) a b h k l =
    elim (ℕ_discrete k n) [
      | yes e ↦
          let z : count_of n a ≡ count_of n b = eqb-true _ _ (and_left (eqb (count_of n a) (count_of n b)) (same_counts n a b) h) in
          ap (λ (z : ℕ). cnt z a) e ∙ sym (count_is n a) ∙ z ∙ count_is n b ∙ ap (λ (z : ℕ). cnt z b) (sym e)
      | no e ↦ counts_agree n a b (and_right (eqb (count_of n a) (count_of n b)) (same_counts n a b) h) k (omega arith)
    ]

agree_counts : (n : ℕ) (a b : List ℕ) → ((k : ℕ) → cnt k a ≡ cnt k b) → same_counts n a b ≡ true
agree_counts zero a b h = refl
agree_counts (suc n) a b h =
    let e : count_of n a ≡ count_of n b = count_is n a ∙ h n ∙ sym (count_is n b) in
    rw (eq-eqb _ _ e) (agree_counts n a b h)

keys_agree : (a b : List ℕ) → are_keys_same a b ≡ true → a ≡ b
keys_agree [] [] h = refl
keys_agree [] (y ∷ b) h = let z : ◌≡◌ {A = ℕ} 0 1 = cc in absurd (omega arith)
keys_agree (x ∷ a) [] h = let z : ◌≡◌ {A = ℕ} 0 1 = cc in absurd (omega arith)
keys_agree (x ∷ a) (y ∷ b) h =
    let e : x ≡ y = eqb-true x y (and_left (eqb x y) (are_keys_same a b) h) in
    let f : a ≡ b = keys_agree a b (and_right (eqb x y) (are_keys_same a b) h) in
    cc

agree_keys : (a : List ℕ) → are_keys_same a a ≡ true
agree_keys [] = refl
agree_keys (x ∷ a) = rw (eq-eqb x x refl) (agree_keys a)

-- not refused, so the windows agree
pub routable_routed : (sm : ℕ) (cur goal : List ℕ) → Small cur → Small goal → unroutable sm cur goal ≡ false → Routed sm cur goal
unfolding unroutable
routable_routed sm cur goal a b h =
    let x : Bool = not (eqb (length cur) (length goal)) in
    let y : Bool = not (same_counts 64 cur goal) in
    let z : Bool = not (are_keys_same (drop sm cur) (drop sm goal)) in
    let c : same_counts 64 cur goal ≡ true = not-false _ (or_left y z (or_right x (y || z) h)) in
    let d : drop sm cur ≡ drop sm goal = keys_agree (drop sm cur) (drop sm goal) (not-false _ (or_right y z (or_right x (y || z) h))) in
    record {
      same_length = eqb-true _ _ (not-false _ (or_left x (y || z) h));
      same_keys = λ k.
          elim (dec_lt k 64) [
            | yes l ↦ counts_agree 64 cur goal c k l
            | no l ↦ none_of cur a k l ∙ sym (none_of goal b k l)
          ];
      placed = λ j p s.
          let e : sm + (j - sm) ≡ j = omega arith in
          ap (at cur) (sym e) ∙ sym (get_or-drop sm cur (j - sm) 0) ∙ ap (λ (w : List ℕ). at w (j - sm)) d ∙ get_or-drop sm goal (j - sm) 0 ∙ ap (at goal) e;
    }
  where
    none_of : (w : List ℕ) → Small w → (k : ℕ) → (k < 64 → ⊥) → cnt k w ≡ 0
    none_of w s k l =
        elim (ℕ_discrete (cnt k w) 0) [
          | yes n ↦ n
          | no n ↦ absurd (l (s k (omega arith)))
        ]

-- and where they agree it is not refused
pub routed_routable : (sm : ℕ) (cur goal : List ℕ) → Routed sm cur goal → unroutable sm cur goal ≡ false
unfolding unroutable
routed_routable sm cur goal r =
    let d : drop sm cur ≡ drop sm goal =
    ext_get_or 0 (drop sm cur) (drop sm goal) (omega (arith, length-drop sm cur, length-drop sm goal, r.same_length))
    (λ i l. get_or-drop sm cur i 0 ∙ placed_all sm cur goal r (sm + i) (omega arith) ∙ sym (get_or-drop sm goal i 0)) in
    rw (eq-eqb _ _ r.same_length, agree_counts 64 cur goal r.same_keys, d, agree_keys (drop sm goal))

-- windows that pass every check
pub routed_pair : (sm : ℕ) (cur goal : List ℕ) → length cur ≤ 21 → Small cur → Small goal → Routed sm cur goal → Pair cur goal
routed_pair sm cur goal l a b r =
    record {
      routable = record { same_length = r.same_length; same_keys = r.same_keys; keys = small_at goal b };
      short = l;
      cur_keys = small_at cur a;
    }
