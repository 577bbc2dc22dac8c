-- The common suffix of a window and the goal, compared from the bottom.
use Rattle.std.specs.Prelude.{ℕ, suc, ◌+◌, ◌≤◌, ◌≡◌, refl, Bool, true, false, List, [], ◌∷◌, reverse, length, cond, eqb}
use Rattle.std.specs.List.{prefix_len, zip}
use Rattle.std.proofs.Common.{arith}
use Rattle.std.proofs.lemmas.List.{length-reverse}
use Rattle.costs.specs.Choice.{◌if◌otherwise◌}
use Rattle.successors.specs.Successors.{common}

-- the same in the library's words: so many pairs from the front on are of the same keys
pub common_prefix : (xs ys : List ℕ) → prefix_len (λ p. eqb p.0 p.1) (zip xs ys) ≡ common xs ys
unfolding common
common_prefix [] ys = refl
common_prefix (x ∷ xs) [] = refl
common_prefix (x ∷ xs) (y ∷ ys) = go (eqb x y) (common_prefix xs ys)
  where
    go : (b : Bool) → prefix_len (λ p. eqb p.0 p.1) (zip xs ys) ≡ common xs ys → cond b (1 + prefix_len (λ p. eqb p.0 p.1) (zip xs ys)) 0 ≡ (suc (common xs ys) if b otherwise 0)
    go true h = omega arith
    go false h = refl

common_low : (xs ys : List ℕ) → common xs ys ≤ length xs
unfolding common
common_low [] ys = omega arith
common_low (x ∷ xs) [] = omega arith
common_low (x ∷ xs) (y ∷ ys) = go (eqb x y) (common_low xs ys)
  where
    go : (b : Bool) → common xs ys ≤ length xs → (suc (common xs ys) if b otherwise 0) ≤ suc (length xs)
    go true h = omega arith
    go false h = omega arith

pub common_within : (a b : List ℕ) → common (reverse a) (reverse b) ≤ length a
common_within a b = let h = common_low (reverse a) (reverse b) in omega (arith, length-reverse a)
