-- The estimate of the empty window is what the goal's keys, each once, add with no copy there.
use Prim.Native.Nat.{ℕ, zero, suc, ◌+◌, ◌≤◌, ◌<◌}
use Rattle.std.specs.Prelude.{◌≡◌, Bool, ◌||◌}
use Rattle.std.proofs.Math.Path.{refl, sym}
use Rattle.std.proofs.Common.{ap, ◌∙◌}
use Rattle.std.proofs.Math.Bool.{true, false, not}
use mathlib.Core.List.{List, [], ◌∷◌, ◌++◌}
use native.Mathlib.Omega.{arith}
use Rattle.std.proofs.Math.ListN.{length, get_or, take}
use Rattle.std.proofs.Math.Seq.{take-suc, take-length}
use Rattle.std.proofs.Math.Dec.{eqb}
use borrow.Author.Tests.{eqb-true, eqb-false, eq-eqb, ne_eqb}
use Rattle.costs.specs.Choice.{◌if◌otherwise◌}
use Rattle.costs.specs.Table.{count_of}
use Rattle.costs.specs.declared.Step.TheVariants.{Pop, PushImm}
use Rattle.window.specs.Pack.{Keys}
use Rattle.window.specs.Laws.{key_lt}
use Rattle.successors.specs.Parts.{offer, up_to, has}
use Rattle.successors.specs.Successors.{is_first, first_at, firsts}
use Rattle.heuristic.specs.Heuristic.{gas_of, sum_to, key_term}
use Rattle.heuristic.specs.Counts.{Counted, count_term, term_enough}
use Rattle.heuristic.specs.Steady.{Cheap, Standing, plain_to, plain_same, plain_change, sum_is_plain, small}
use Rattle.heuristic.specs.Bare.{bare_term, over_keys, plain_over, over_plain, plain_append}

-- f on the members of a list, and 0 elsewhere
unfoldable only : (ℕ → ℕ) → List ℕ → ℕ → ℕ
only f xs k = f k if has k xs otherwise 0

only_in : (f : ℕ → ℕ) (xs : List ℕ) (k : ℕ) → has k xs ≡ true → only f xs k ≡ f k
unfolding only
only_in f xs k e = rw e

only_out : (f : ℕ → ℕ) (xs : List ℕ) (k : ℕ) → has k xs ≡ false → only f xs k ≡ 0
unfolding only
only_out f xs k e = rw e

or_false : (b : Bool) → (b || false) ≡ b
or_false true = refl
or_false false = refl

or_true : (b : Bool) → (b || true) ≡ true
or_true true = refl
or_true false = refl

has_snoc : (k x : ℕ) (xs : List ℕ) → has k (xs ++ (x ∷ [])) ≡ (has k xs || eqb x k)
unfolding has
has_snoc k x [] = or_false (eqb x k)
has_snoc k x (y ∷ xs) = go (eqb y k) (has_snoc k x xs)
  where
    go : (b : Bool) → has k (xs ++ (x ∷ [])) ≡ (has k xs || eqb x k) → (b || has k (xs ++ (x ∷ []))) ≡ ((b || has k xs) || eqb x k)
    go true ih = refl
    go false ih = ih

module _ (f : ℕ → ℕ) (xs : List ℕ) (x : ℕ) where
  -- another key's number is the same with x at the end
  snoc_other : (j : ℕ) → (j ≡ x → ⊥) → only f (xs ++ (x ∷ [])) j ≡ only f xs j
  unfolding only
  snoc_other j n = rw (has_snoc j x xs, ne_eqb x j (λ e. n (sym e)), or_false (has j xs))

  snoc_in : has x (xs ++ (x ∷ [])) ≡ true
  snoc_in = has_snoc x x xs ∙ rw (eq-eqb x x refl) (or_true (has x xs))

  -- one key more
  snoc_sum : x < 64 → plain_to (only f (xs ++ (x ∷ []))) 64 ≡ plain_to (only f xs) 64 + plain_over f (offer (not (has x xs)) x)
  unfolding offer plain_over
  snoc_sum l = go (has x xs) refl
    where
      go : (b : Bool) → has x xs ≡ b → plain_to (only f (xs ++ (x ∷ []))) 64 ≡ plain_to (only f xs) 64 + plain_over f ((x ∷ []) if not b otherwise [])
      go true e = plain_same (only f (xs ++ (x ∷ []))) (only f xs) 64 (λ j m. at j (eqb j x) refl) ∙ omega arith
        where
          at : (j : ℕ) (b : Bool) → eqb j x ≡ b → only f (xs ++ (x ∷ [])) j ≡ only f xs j
          at j true q = let p : j ≡ x = eqb-true j x q in rw p (only_in f (xs ++ (x ∷ [])) x snoc_in ∙ sym (only_in f xs x e))
          at j false q = snoc_other j (eqb-false j x q)
      go false e =
          omega (arith, plain_change (only f (xs ++ (x ∷ []))) (only f xs) 64 x l snoc_other, only_in f (xs ++ (x ∷ [])) x snoc_in, only_out f xs x e)

nothing : (n : ℕ) → plain_to (λ (k : ℕ). 0) n ≡ 0
unfolding plain_to
nothing zero = refl
nothing (suc n) = omega (arith, nothing n)

module _ (f : ℕ → ℕ) (goal : List ℕ) (keys : Keys 6 goal) where
  first_is : (n : ℕ) → plain_over f (first_at goal n) ≡ plain_over f (offer (not (has (get_or goal n 0) (take n goal))) (get_or goal n 0))
  unfolding is_first
  first_is n = refl

  prefix_sum : (n : ℕ) → n ≤ length goal → plain_to (only f (take n goal)) 64 ≡ plain_over f (up_to (first_at goal) n)
  unfolding up_to plain_over has
  prefix_sum zero l = plain_same (only f []) (λ k. 0) 64 (λ j m. only_out f [] j refl) ∙ nothing 64
  prefix_sum (suc n) l =
      let x = get_or goal n 0 in
      let m : n < length goal = omega arith in
      let t : take (suc n) goal ≡ take n goal ++ (x ∷ []) = take-suc goal n 0 m in
      let a = snoc_sum f (take n goal) x (key_lt 6 goal n keys) in
      let i = prefix_sum n (omega arith) in
      rw t (a ∙ omega (arith, i, plain_append f (up_to (first_at goal) n) (first_at goal n), first_is n))

  firsts_sum : plain_to (only f goal) 64 ≡ plain_over f (firsts goal)
  unfolding firsts
  firsts_sum = rw take-length at (prefix_sum (length goal) (omega arith))

none_there : (k : ℕ) (xs : List ℕ) → has k xs ≡ false → count_of k xs ≡ 0
unfolding has
none_there k [] e = refl
none_there k (x ∷ xs) e = go (eqb x k) e (none_there k xs)
  where
    go : (b : Bool) → (b || has k xs) ≡ false → (has k xs ≡ false → count_of k xs ≡ 0) → (suc (count_of k xs) if b otherwise count_of k xs) ≡ 0
    go true q ih = absurd (let z : ◌≡◌ {A = ℕ} 0 1 = cc in omega arith)
    go false q ih = ih q

module _ (prices : List ℕ) (dup : ℕ) (want goal : List ℕ) (wanted : Counted want goal) where
  only_key : (k : ℕ) → k < 64 → only (bare_term prices dup want) goal k ≡ key_term prices dup goal [] k
  unfolding key_term count_term
  only_key k l = go (has k goal) refl
    where
      go : (b : Bool) → has k goal ≡ b → only (bare_term prices dup want) goal k ≡ key_term prices dup goal [] k
      go true e = only_in (bare_term prices dup want) goal k e ∙ rw (wanted.at k l)
      go false e = only_out (bare_term prices dup want) goal k e ∙ rw (none_there k goal e) (term_enough (gas_of prices Pop) dup (gas_of prices (PushImm k)) 0 0 refl)

  bare_is : Cheap prices → Keys 6 goal → length goal ≤ 21 → over_keys (bare_term prices dup want) (firsts goal) ≡ sum_to (key_term prices dup goal []) 64
  bare_is ch ks l =
      let m : length {A = ℕ} [] + length goal ≤ 42 = omega arith in
      let a = sum_is_plain prices ch dup goal [] m in
      let b = small prices ch dup goal [] m in
      let c : plain_to (key_term prices dup goal []) 64 ≡ plain_over (bare_term prices dup want) (firsts goal) =
      sym (plain_same (only (bare_term prices dup want) goal) (key_term prices dup goal []) 64 only_key) ∙ firsts_sum (bare_term prices dup want) goal ks in
      omega (arith, over_plain (bare_term prices dup want) (firsts goal) (omega arith))

  -- what stands before the first key of a window is counted
  pub bare_standing : (h : ℕ) (have keys : List ℕ) → Counted have [] → Cheap prices → Keys 6 goal → length goal ≤ 21 → keys ≡ firsts goal → h ≡ over_keys (bare_term prices dup want) keys → Standing prices dup h have want [] goal
  bare_standing h have keys c ch ks l e q = record {
    prices_cheap = ch;
    counted = c;
    wanted = wanted;
    sum = q ∙ ap (over_keys (bare_term prices dup want)) e ∙ bare_is ch ks l;
    size = omega arith;
  }
