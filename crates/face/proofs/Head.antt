-- The least with the last in its place is the queue's head and rest.
use Rattle.std.specs.Prelude.{◌≡◌, Some, None, refl, Bool, true, false, cond, ℕ, zero as zeroN, suc, ◌-◌, ◌<◌, ◌≤◌, eqb, length, get_or, set, take}
use Rattle.std.proofs.Common.{sym, ◌∙◌, arith, take-take, get_or-take, length-take-le, eqb-true}
use Rattle.std.proofs.Math.Path.{ap, subst}
use mathlib.Core.List.{List, [], ◌∷◌, ◌++◌, map}
use Rattle.std.proofs.Math.Dec.{T}
use Rattle.std.proofs.Math.ListN.{drop}
use Rattle.std.proofs.lemmas.List.{length-map, take-set-le}
use Rattle.std.proofs.Math.Seq.{take-set-lt}
use Rattle.std.proofs.lemmas.Bool.{eqb-false}
use Rattle.costs.specs.declared.Cost.{Cost}
use Rattle.algebra.specs.GasBytes.{gas_bytes}
use Rattle.astar.specs.Search.{Entry as Waiting, before}
use Rattle.astar.specs.Bag.{sorted}
use Rattle.astar.proofs.Bag.{taken, filled, dropped}
use Rattle.face.specs.Open.{entry_of, queue_in, no_later, zero, at, least_at, least_of, without, held, Taken, Removed}
use Rattle.heap.specs.declared.Entry.{Entry}
use Rattle.face.specs.Laws.{least_found, held_in}

-- ---- the entries of the search in the places

map_get_d : (xs : List (Entry Cost)) (i : ℕ) → get_or (map entry_of xs) i (entry_of zero) ≡ entry_of (at xs i)
map_get_d [] i = refl
map_get_d (x ∷ xs) zeroN = refl
map_get_d (x ∷ xs) (suc i) = map_get_d xs i

map_set : (xs : List (Entry Cost)) (i : ℕ) (e : Entry Cost) → map entry_of (set xs i e) ≡ set (map entry_of xs) i (entry_of e)
map_set [] i e = refl
map_set (x ∷ xs) zeroN e = refl
map_set (x ∷ xs) (suc i) e = ap (λ (l : List (Waiting Cost)). entry_of x ∷ l) (map_set xs i e)

map_take : (n : ℕ) (xs : List (Entry Cost)) → map entry_of (take n xs) ≡ take n (map entry_of xs)
map_take zeroN xs = refl
map_take (suc n) [] = refl
map_take (suc n) (x ∷ xs) = ap (λ (l : List (Waiting Cost)). entry_of x ∷ l) (map_take n xs)

-- ---- the queue's head and rest

module _ (s : List (Entry Cost)) (n : ℕ) (some_in : 0 < n) (n-in : n ≤ length s) where
  abbrev es : List (Waiting Cost)
  es = map entry_of (take n s)

  abbrev k : ℕ
  k = least_at s n

  long : length es ≡ n
  long = length-map (take n s) entry_of ∙ length-take-le n s n-in

  longer : length es ≡ suc (n - 1)
  longer = long ∙ omega arith

  here : (j : ℕ) → j < n → get_or es j (entry_of zero) ≡ entry_of (at s j)
  here j h = map_get_d (take n s) j ∙ ap entry_of (get_or-take n s j zero h)

  k_in : k < n
  k_in = (least_found s n some_in).0

  k_least : (j : ℕ) → j < length es → T (before gas_bytes (get_or es k (entry_of zero)) (get_or es j (entry_of zero)))
  unfolding no_later
  k_least j h =
      let l : j < n = subst (λ (m : ℕ). j < m) long h in
      subst (λ (x : Waiting Cost). T (before gas_bytes x (get_or es j (entry_of zero)))) (sym (here k k_in))
      (subst (λ (x : Waiting Cost). T (before gas_bytes (entry_of (at s k)) x)) (sym (here j l)) ((least_found s n some_in).1 j l))

  -- the entries but the least, as the code leaves them
  left : (t : Bool) → eqb k (n - 1) ≡ t → sorted gas_bytes (take k es ++ drop (suc k) es) ≡ sorted gas_bytes (map entry_of (take (n - 1) (without s n)))
  left true e =
      let q : k ≡ n - 1 = eqb-true k (n - 1) e in
      ap (λ (j : ℕ). sorted gas_bytes (take j es ++ drop (suc j) es)) q
      ∙ sym (dropped gas_bytes (entry_of zero) es (n - 1) longer)
      ∙ ap (sorted gas_bytes) (sym (map_take (n - 1) (take n s)))
      ∙ ap (λ (l : List (Entry Cost)). sorted gas_bytes (map entry_of l)) (take-take (n - 1) n s (omega arith) ∙ sym (take-set-le (n - 1) s k (at s (n - 1)) (omega arith)))
  left false e =
      let ne : k ≡ n - 1 → ⊥ = eqb-false k (n - 1) e in
      let h : k < n = k_in in
      let m : k < n - 1 = omega arith in
      let v : Entry Cost = at s (n - 1) in
      sym (filled gas_bytes (entry_of zero) es k (n - 1) longer m)
      ∙ ap (λ (x : Waiting Cost). sorted gas_bytes (take (n - 1) (set es k x))) (here (n - 1) (omega arith))
      ∙ ap (λ (l : List (Waiting Cost)). sorted gas_bytes (take (n - 1) l)) (sym (map_set (take n s) k v))
      ∙ ap (sorted gas_bytes) (sym (map_take (n - 1) (set (take n s) k v)))
      ∙ ap (λ (l : List (Entry Cost)). sorted gas_bytes (map entry_of (take (n - 1) l))) (sym (take-set-lt n s k v h))
      ∙ ap (λ (l : List (Entry Cost)). sorted gas_bytes (map entry_of l)) (take-take (n - 1) n (set s k v) (omega arith))

  pub queue_take : queue_in s n ≡ entry_of (least_of s n) ∷ queue_in (without s n) (n - 1)
  unfolding queue_in
  queue_take =
      taken gas_bytes (entry_of zero) es k (subst (λ (m : ℕ). k < m) (sym long) k_in) k_least
      ∙ ap (λ (x : Waiting Cost). x ∷ sorted gas_bytes (take k es ++ drop (suc k) es)) (here k k_in)
      ∙ ap (λ (l : List (Waiting Cost)). entry_of (least_of s n) ∷ l) (left (eqb k (n - 1)) refl)

-- ---- what the functions say

pub took : (s t : List (Entry Cost)) (n : ℕ) (r : Entry Cost) → held s n ≡ true → Removed s t n r → Taken s t n (Some r)
took s t n r h is =
    let i : (0 < n) × (n ≤ length s) = held_in n (length s) h in
    record {
      answer = ap Some is.least ∙ sym (ap (λ (b : Bool). cond b (Some (least_of s n)) None) h);
      list = is.list ∙ sym (ap (λ (b : Bool). cond b (without s n) s) h);
      queue = λ _. queue_take s n i.0 i.1 ∙ ap (λ (l : List (Entry Cost)). entry_of (least_of s n) ∷ queue_in l (n - 1)) (sym is.list);
    }
