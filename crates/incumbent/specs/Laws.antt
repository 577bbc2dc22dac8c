-- The keys that two windows share at the bottom, as the successors' code counts them.
use Rattle.std.specs.Prelude.{ℕ, zero, suc, ◌+◌, ◌≤◌, min, Bool, true, false, List, [], ◌∷◌, ◌≡◌, refl, length, drop, reverse, eqb}
use Rattle.std.specs.Prelude.{Some}
use Rattle.std.proofs.Common.{ap, arith, length-drop}
use Rattle.std.proofs.lemmas.List.{get_or-reverse, length-reverse}
use Rattle.std.proofs.Math.Numerals.{add-one}
use Rattle.costs.specs.declared.Cost.{Cost}
use Rattle.costs.specs.declared.Step.TheVariants.{Pop, PushImm}
use Rattle.costs.specs.Cost.{plus}
use Rattle.costs.specs.Price.{price_of}
use Rattle.costs.specs.Sum.{add_price}
use Rattle.std.specs.List.{fold}
use Rattle.costs.specs.Choice.{◌if◌otherwise◌}
use Rattle.costs.specs.Laws.{drop_turn}
use Rattle.successors.specs.Successors.{common}
use Rattle.incumbent.specs.Flush.{bottom_at, same_from, common_suffix, with_pops, with_keys}

-- nothing is common with an empty list
common_none : (xs ys : List ℕ) → min (length xs) (length ys) ≡ 0 → common xs ys ≡ 0
unfolding common
common_none [] ys e = refl
common_none (x ∷ xs) [] e = refl
common_none (x ∷ xs) (y ∷ ys) e = absurd (omega (arith, e))

module _ (a b : List ℕ) where
  abbrev top : List ℕ
  top = reverse a

  abbrev other : List ℕ
  other = reverse b

  -- what is left to compare
  left_over : (k : ℕ) → min (length a) (length b) ≤ k → common (drop k top) (drop k other) ≡ 0
  left_over k h = common_none (drop k top) (drop k other) (omega (arith, length-drop k top, length-drop k other, length-reverse a, length-reverse b))

  step : (t : Bool) (n k r s : ℕ) → suc k + r ≡ s → k + (suc r if t otherwise 0) ≡ (s if t otherwise k)
  step true n k r s e = omega (arith, e)
  step false n k r s e = omega arith

  -- the reversed windows from place k on, as the definition counts
  left_same : (n k : ℕ) → k + n ≡ min (length a) (length b) → k + common (drop k top) (drop k other) ≡ same_from n k a b
  unfolding common same_from
  left_same zero k e = let z = left_over k (omega arith) in omega (arith, z)
  left_same (suc n) k e =
      let x = get_or-reverse a k 0 (omega arith) in
      let y = get_or-reverse b k 0 (omega arith) in
      let d = drop_turn top k (omega (arith, length-reverse a)) in
      let g = drop_turn other k (omega (arith, length-reverse b)) in
      rw (d, g, x, y)
      (step (eqb (bottom_at a k) (bottom_at b k)) n k (common (drop (k + 1) top) (drop (k + 1) other)) (same_from n (suc k) a b)
      (let h = left_same n (k + 1) (omega (arith, e)) in let m = ap (λ (i : ℕ). same_from n i a b) (add-one k) in omega (arith, h, m)))

  -- the keys that two windows share at the bottom are those that they share at the top once reversed
  pub suffix_is : common (reverse a) (reverse b) ≡ common_suffix a b
  unfolding common_suffix
  suffix_is = let h = left_same (min (length a) (length b)) 0 (omega arith) in omega (arith, h)

same_low : (n k : ℕ) (a b : List ℕ) → same_from n k a b ≤ k + n
unfolding same_from
same_low zero k a b = omega arith
same_low (suc n) k a b = go (eqb (bottom_at a k) (bottom_at b k)) (same_low n (suc k) a b)
  where
    go : (t : Bool) → same_from n (suc k) a b ≤ suc k + n → (same_from n (suc k) a b if t otherwise k) ≤ k + suc n
    go true h = omega arith
    go false h = omega arith

-- the common suffix is no longer than either window
pub suffix_low : (a b : List ℕ) → (common_suffix a b ≤ length a) × (common_suffix a b ≤ length b)
unfolding common_suffix
suffix_low a b = let h = same_low (min (length a) (length b)) 0 a b in (omega arith, omega arith)

-- the sum over a list of which each entry stands for a pop
pub fold_pops : (prices : List ℕ) (sum : Cost) (xs : List ℕ) → fold (add_price prices (λ _. Some Pop)) sum xs ≡ with_pops prices (length xs) sum
unfolding with_pops
fold_pops prices sum [] = refl
fold_pops prices sum (x ∷ xs) = fold_pops prices (plus sum (price_of prices (Some Pop))) xs

-- the sum over keys that are made
pub fold_keys : (prices : List ℕ) (sum : Cost) (ks : List ℕ) → fold (add_price prices (λ k. Some (PushImm k))) sum ks ≡ with_keys prices sum ks
unfolding with_keys
fold_keys prices sum [] = refl
fold_keys prices sum (k ∷ ks) = fold_keys prices (plus sum (price_of prices (Some (PushImm k)))) ks
