-- The estimate of the empty window, as a sum over the goal's keys, each once.
use Rattle.std.specs.Prelude.{ℕ, ◌+◌, ◌≤◌, ◌<◌, ◌≡◌, refl, List, [], ◌∷◌, ◌++◌, length, get_or, drop}
use Rattle.std.proofs.Common.{arith, drop_of_length-le}
use Rattle.costs.specs.Cost.{capped}
use Rattle.costs.specs.Laws.{drop_turn}
use Rattle.heuristic.specs.Counts.{count_term}

-- what a key adds with no copy there
abbrev pub bare_term : (prices : List ℕ) → (dup : ℕ) → (want : List ℕ) → ℕ → ℕ
bare_term prices dup want k = count_term prices dup want k 0

-- f of each member, in sums that stop at the greatest u32
unfoldable pub over_keys : (ℕ → ℕ) → List ℕ → ℕ
over_keys f [] = 0
over_keys f (k ∷ ks) = capped (over_keys f ks) (f k)

-- f of each member, in sums that do not stop
unfoldable pub plain_over : (ℕ → ℕ) → List ℕ → ℕ
plain_over f [] = 0
plain_over f (k ∷ ks) = plain_over f ks + f k

pub over_plain : (f : ℕ → ℕ) (ks : List ℕ) → plain_over f ks ≤ 4294967295 → over_keys f ks ≡ plain_over f ks
unfolding over_keys plain_over
over_plain f [] h = refl
over_plain f (k ∷ ks) h = let e = over_plain f ks (omega arith) in omega arith

pub plain_append : (f : ℕ → ℕ) (xs ys : List ℕ) → plain_over f (xs ++ ys) ≡ plain_over f xs + plain_over f ys
unfolding plain_over
plain_append f [] ys = omega arith
plain_append f (x ∷ xs) ys = omega (arith, plain_append f xs ys)

over_fits : (f : ℕ → ℕ) (ks : List ℕ) → over_keys f ks ≤ 4294967295
unfolding over_keys
over_fits f [] = omega arith
over_fits f (k ∷ ks) = omega arith

-- the loop: the sum so far and what is left to add
pub over_begin : (f : ℕ → ℕ) (ks : List ℕ) → capped 0 (over_keys f ks) ≡ over_keys f ks
over_begin f ks = omega (arith, over_fits f ks)

pub over_on : (f : ℕ → ℕ) (ks : List ℕ) (i s : ℕ) → i < length ks → capped s (over_keys f (drop i ks)) ≡ over_keys f ks → capped (capped s (f (get_or ks i 0))) (over_keys f (drop (i + 1) ks)) ≡ over_keys f ks
unfolding over_keys
over_on f ks i s l e =
    let d : drop i ks ≡ get_or ks i 0 ∷ drop (i + 1) ks = drop_turn ks i l in
    let h = rw d at e in
    omega arith

pub over_end : (f : ℕ → ℕ) (ks : List ℕ) (i s : ℕ) → length ks ≤ i → s ≤ 4294967295 → capped s (over_keys f (drop i ks)) ≡ over_keys f ks → s ≡ over_keys f ks
unfolding over_keys
over_end f ks i s l m e =
    let d : drop i ks ≡ [] = drop_of_length-le ks l in
    let h = rw d at e in
    omega arith
