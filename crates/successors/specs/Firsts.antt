-- The keys of a list, each once, as the code gathers them.
use Rattle.std.specs.Prelude.{ℕ, zero, suc, ◌+◌, ◌≤◌, ◌<◌, ◌≡◌, refl, Bool, true, false, not, ◌||◌, List, [], ◌∷◌, ◌++◌, length, get_or, take, eqb}
use Rattle.std.specs.List.{list_any}
use Rattle.std.proofs.Common.{sym, ap, ◌∙◌, append-nil, arith, take-suc, eqb-true}
use Rattle.costs.specs.Choice.{◌if◌otherwise◌}
use Rattle.successors.specs.Parts.{offer, up_to, up_to_turn, up_to_length, offer_length, has, has_any}
use Rattle.successors.specs.Successors.{is_first, first_at}

has_push : (k : ℕ) (xs : List ℕ) (x : ℕ) → has k (xs ++ (x ∷ [])) ≡ (has k xs || eqb x k)
unfolding has
has_push k [] x = go (eqb x k)
  where
    go : (b : Bool) → (b || false) ≡ b
    go true = refl
    go false = refl
has_push k (y ∷ xs) x = go (eqb y k) (has_push k xs x)
  where
    go : (b : Bool) → has k (xs ++ (x ∷ [])) ≡ (has k xs || eqb x k) → (b || has k (xs ++ (x ∷ []))) ≡ ((b || has k xs) || eqb x k)
    go true h = refl
    go false h = h

or_same : (k x : ℕ) (xs : List ℕ) → has x xs ≡ true → has k xs ≡ (has k xs || eqb x k)
or_same k x xs e = go (eqb x k) refl
  where
    go : (b : Bool) → eqb x k ≡ b → has k xs ≡ (has k xs || b)
    go true f = let q : x ≡ k = eqb-true x k f in let g = rw q at e in rw g
    go false f = keep (has k xs)
      where
        keep : (b : Bool) → b ≡ (b || false)
        keep true = refl
        keep false = refl

-- one key more
has_more : (k x : ℕ) (seen kept : List ℕ) → ((j : ℕ) → has j kept ≡ has j seen) → has k (kept ++ offer (not (has x seen)) x) ≡ has k (seen ++ (x ∷ []))
unfolding offer
has_more k x seen kept h = go (has x seen) refl
  where
    go : (b : Bool) → has x seen ≡ b → has k (kept ++ ((x ∷ []) if not b otherwise [])) ≡ has k (seen ++ (x ∷ []))
    go true e = rw (append-nil kept, h k, has_push k seen x) (or_same k x seen e)
    go false e = rw (has_push k kept x, h k, has_push k seen x)

-- the keys so far, each once, are the keys so far
has_firsts : (ks : List ℕ) (i : ℕ) → i ≤ length ks → (k : ℕ) → has k (up_to (first_at ks) i) ≡ has k (take i ks)
unfolding up_to is_first
has_firsts ks zero l k = refl
has_firsts ks (suc i) l k =
    let m : i < length ks = omega arith in
    rw (take-suc ks i 0 m) (has_more k (get_or ks i 0) (take i ks) (up_to (first_at ks) i) (has_firsts ks i (omega arith)))

-- a turn of the gathering: the next key is there already, or is put at the end
module _ (ks kept : List ℕ) (i : ℕ) (l : i < length ks) (h : kept ≡ up_to (first_at ks) i) where
  pub gathered_few : length kept ≤ i
  gathered_few = omega (arith, ap length h, up_to_length (first_at ks) i (λ j. offer_length (is_first ks j) (get_or ks j 0)))

  test_is : list_any (λ y. eqb y (get_or ks i 0)) kept ≡ has (get_or ks i 0) (take i ks)
  test_is = sym (has_any (get_or ks i 0) kept) ∙ ap (has (get_or ks i 0)) h ∙ has_firsts ks i (omega arith) (get_or ks i 0)

  pub gathered_new : list_any (λ y. eqb y (get_or ks i 0)) kept ≡ false → kept ++ (get_or ks i 0 ∷ []) ≡ up_to (first_at ks) (i + 1)
  unfolding is_first offer
  gathered_new e = rw (up_to_turn (first_at ks) i, ← test_is, e, h)

  pub gathered_again : list_any (λ y. eqb y (get_or ks i 0)) kept ≡ true → kept ≡ up_to (first_at ks) (i + 1)
  unfolding is_first offer
  gathered_again e = rw (up_to_turn (first_at ks) i, ← test_is, e, append-nil (up_to (first_at ks) i)) h
