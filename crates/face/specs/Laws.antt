-- The laws of the face: a push behind the others is the queue's push, and the least with the last in its place is the queue's head and rest (`proofs/Head.antt`).
use Rattle.std.specs.Prelude.{◌≡◌, Option, Some, None, refl, Bool, true, false, cond, not, ◌&&◌, ℕ, zero as zeroN, suc, ◌+◌, ◌-◌, ◌<◌, ◌≤◌, eqb, ltb, leb, length, set, take}
use Rattle.std.proofs.Common.{sym, ◌∙◌, not-suc-le-zero, add-one, arith, take-suc-set, eqb-true, lt-ltb, le-ltb, le-leb, ltb-true, leb-true}
use Rattle.std.proofs.Math.Path.{ap, subst}
use mathlib.Core.List.{List, [], ◌∷◌, ◌++◌, map}
use Rattle.std.proofs.Math.Dec.{T}
use Rattle.std.proofs.lemmas.Bool.{eqb-false}
use Rattle.costs.specs.declared.Cost.{Cost}
use Rattle.algebra.specs.GasBytes.{gas_bytes}
use Rattle.astar.specs.Search.{Entry as Waiting, push}
use Rattle.astar.specs.Tests.{by_cond}
use Rattle.astar.specs.Bag.{sorted}
use Rattle.astar.proofs.Bag.{before_total, sorted_push}
use Rattle.face.specs.Open.{entry_of, queue_in, no_later, at, lesser_at, least_from, least_at, least_of, without, free, held, drawn, foremost, Pushed, Taken}
use Rattle.heap.specs.declared.Entry.{Entry}

-- ---- a turn of the scan, and its end

pub least_step : (s : List (Entry Cost)) (k i n : ℕ) → i < n → least_from s k i (n - i) ≡ least_from s (lesser_at (at s k) (at s i) k i) (i + 1) (n - (i + 1))
unfolding least_from
least_step s k i n h =
    let e : n - i ≡ suc (n - (i + 1)) = omega arith in
    ap (λ (m : ℕ). least_from s k i m) e ∙ ap (λ (j : ℕ). least_from s (lesser_at (at s k) (at s i) k i) j (n - (i + 1))) (sym (add-one i))

pub least_stop : (s : List (Entry Cost)) (k i n : ℕ) → n ≤ i → least_from s k i (n - i) ≡ k
unfolding least_from
least_stop s k i n h =
    let e : n - i ≡ 0 = omega arith in
    ap (λ (m : ℕ). least_from s k i m) e

pub lesser_below : (a b : Entry Cost) (k i : ℕ) → k < i → lesser_at a b k i < i + 1
unfolding lesser_at
lesser_below a b k i h = by_cond (λ (m : ℕ). m < i + 1) (no_later a b) (λ _. omega arith) (λ _. omega arith)

-- ---- the scan finds the least

-- s[k] comes no later than any of the first n
abbrev Found : List (Entry Cost) → ℕ → ℕ → Type 0
Found s n k = (k < n) × ((j : ℕ) → j < n → T (no_later (at s k) (at s j)))

same : (a : Entry Cost) → T (no_later a a)
unfolding no_later
same a = (before_total gas_bytes).reflexive (entry_of a)

through : (a b c : Entry Cost) → T (no_later a b) → T (no_later b c) → T (no_later a c)
unfolding no_later
through a b c = (before_total gas_bytes).transitive (entry_of a) (entry_of b) (entry_of c)

turned : (a b : Entry Cost) → T (not (no_later a b)) → T (no_later b a)
unfolding no_later
turned a b = (before_total gas_bytes).total (entry_of a) (entry_of b)

upto : (P : ℕ → Type 0) (i j : ℕ) (z : Bool) → eqb j i ≡ z → j < suc i → (j < i → P j) → P i → P j
upto P i j true e h a b = subst P (sym (eqb-true j i e)) b
upto P i j false e h a b = a (let ne : j ≡ i → ⊥ = eqb-false j i e in omega arith)

turn : (s : List (Entry Cost)) (k i : ℕ) → Found s i k → Found s (suc i) (lesser_at (at s k) (at s i) k i)
unfolding lesser_at
turn s k i f =
    by_cond (Found s (suc i)) (no_later (at s k) (at s i))
    (λ t. (let h : k < i = f.0 in omega arith, λ j h. upto (λ m. T (no_later (at s k) (at s m))) i j (eqb j i) refl h (f.1 j) t))
    (λ t. (
      omega arith,
      λ j h. upto (λ m. T (no_later (at s i) (at s m))) i j (eqb j i) refl h
          (λ l. through (at s i) (at s k) (at s j) (turned (at s k) (at s i) t) (f.1 j l)) (same (at s i)),
    ))

scan : (s : List (Entry Cost)) (k i n : ℕ) → Found s i k → Found s (i + n) (least_from s k i n)
unfolding least_from
scan s k i zeroN f = subst (λ (m : ℕ). Found s m k) (omega arith) f
scan s k i (suc n) f =
    subst (λ (m : ℕ). Found s m (least_from s (lesser_at (at s k) (at s i) k i) (suc i) n)) (omega arith)
    (scan s (lesser_at (at s k) (at s i) k i) (suc i) n (turn s k i f))

one : (s : List (Entry Cost)) → Found s 1 0
one s = (omega arith, λ j h. upto (λ m. T (no_later (at s 0) (at s m))) 0 j (eqb j 0) refl h (λ l. absurd (not-suc-le-zero l)) (same (at s 0)))

pub least_found : (s : List (Entry Cost)) (n : ℕ) → 0 < n → Found s n (least_at s n)
least_found s n h = subst (λ (m : ℕ). Found s m (least_at s n)) (omega arith) (scan s 0 1 (n - 1) (one s))

-- ---- the entries of the search in the places

map_append : (xs ys : List (Entry Cost)) → map entry_of (xs ++ ys) ≡ map entry_of xs ++ map entry_of ys
map_append [] ys = refl
map_append (x ∷ xs) ys = ap (λ (l : List (Waiting Cost)). entry_of x ∷ l) (map_append xs ys)

-- ---- the queue's push

pub queue_push : (s : List (Entry Cost)) (n : ℕ) (e : Entry Cost) → n < length s → queue_in (set s n e) (n + 1) ≡ push gas_bytes (entry_of e) (queue_in s n)
unfolding queue_in
queue_push s n e h =
    ap (λ (m : ℕ). sorted gas_bytes (map entry_of (take m (set s n e)))) (add-one n)
    ∙ ap (λ (l : List (Entry Cost)). sorted gas_bytes (map entry_of l)) (take-suc-set s n e h)
    ∙ ap (sorted gas_bytes) (map_append (take n s) (e ∷ []))
    ∙ sorted_push gas_bytes (map entry_of (take n s)) (entry_of e)

-- ---- what the functions say

clash : false ≡ true → ⊥
clash p = let z : ◌≡◌ {A = ℕ} 0 1 = cc in omega arith

pub pushed_in : (s t : List (Entry Cost)) (n : ℕ) (e : Entry Cost) → n < length s → t ≡ set s n e → Pushed s t n e true
pushed_in s t n e h is =
    let room : free s n ≡ true = lt-ltb n (length s) h in
    record {
      answer = sym room;
      list = is ∙ sym (ap (λ (b : Bool). cond b (set s n e) s) room);
      queue = λ _. ap (λ (l : List (Entry Cost)). queue_in l (n + 1)) is ∙ queue_push s n e h;
    }

pub pushed_full : (s : List (Entry Cost)) (n : ℕ) (e : Entry Cost) → length s ≤ n → Pushed s s n e false
pushed_full s n e h =
    let full : free s n ≡ false = le-ltb n (length s) h in
    record {
      answer = sym full;
      list = sym (ap (λ (b : Bool). cond b (set s n e) s) full);
      queue = λ room. absurd (clash (sym full ∙ room));
    }

-- what the test says
pub held_in : (n l : ℕ) → (ltb 0 n && leb n l) ≡ true → (0 < n) × (n ≤ l)
held_in n l h = by_first (ltb 0 n) refl h
  where
    by_first : (b : Bool) → ltb 0 n ≡ b → (b && leb n l) ≡ true → (0 < n) × (n ≤ l)
    by_first true e h = (ltb-true 0 n e, leb-true n l h)
    by_first false e h = absurd (clash h)

pub took_none : (s : List (Entry Cost)) (n : ℕ) → held s n ≡ false → Taken s s n None
took_none s n h =
    record {
      answer = sym (ap (λ (b : Bool). cond b (Some (least_of s n)) None) h);
      list = sym (ap (λ (b : Bool). cond b (without s n) s) h);
      queue = λ some. absurd (clash (sym h ∙ some));
    }

-- ---- the answer and the queue's head

held_of : (n l : ℕ) → 0 < n → n ≤ l → (ltb 0 n && leb n l) ≡ true
held_of n l h k = rw (lt-ltb 0 n h, le-leb n l k)

pub head_drawn : (s t : List (Entry Cost)) (n : ℕ) (r : Option (Entry Cost)) → 0 < n → n ≤ length s → Taken s t n r → drawn r ≡ foremost (queue_in s n)
head_drawn s t n r h k is =
    let full : held s n ≡ true = held_of n (length s) h k in
    ap drawn is.answer ∙ ap (λ (b : Bool). drawn (cond b (Some (least_of s n)) None)) full ∙ sym (ap foremost (is.queue full))
