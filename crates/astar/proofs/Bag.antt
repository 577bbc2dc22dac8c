-- The open list kept in any order: `sorted` is the queue that it stands for. A push appends, and a take removes the least, wherever it stands.
use Rattle.std.specs.Prelude.{◌≡◌, not, length, get_or, set, take, drop}
use Rattle.std.proofs.Math.Path.{refl, ap, subst}
use Rattle.std.proofs.Common.{sym, ◌∙◌, arith, length-drop, drop_of_length-le, take-suc, take_all, length-take-le, get_or-drop}
use Rattle.std.proofs.Math.Logic.{⊎_elim}
use mathlib.Core.List.{List, [], ◌∷◌, ◌++◌, append-nil, append_assoc, Memᴰ}
use Prim.Native.Nat.{ℕ, zero, suc, ◌+◌, ◌-◌, ◌<◌, suc-le-suc}
use Rattle.std.proofs.Math.Dec.{T, leb}
use Rattle.std.proofs.Math.Seq.{split_at, take-append-add}
use Rattle.std.proofs.lemmas.List.{set_split}
use Rattle.astar.specs.Cost.{CostAlgebra, Total}
use Rattle.astar.specs.Order.{leb_total, pairwise, pairwise_total, renamed_total}
use Rattle.astar.specs.Search.{Entry, before, push}
use Rattle.astar.specs.Tests.{by_cond, test, T_true, T_false}
use Rattle.astar.specs.Lists.{push_length}
use Rattle.astar.specs.Bag.{sorted}

module _ (K : CostAlgebra) where
  pub before_total : Total (before K)
  unfolding before
  before_total =
      renamed_total
      (pairwise K.le (pairwise K.le leb))
      (Entry K.C)
      (λ e. (e.f, (e.g, e.state)))
      (λ t. record { f = t.0; g = t.1.0; state = t.1.1 })
      (λ d. refl)
      (pairwise_total K.le (pairwise K.le leb) K.order (pairwise_total K.le leb K.order leb_total))

  push_nil : (e : Entry K.C) → push K e [] ≡ e ∷ []
  unfolding push
  push_nil e = refl

  push_here : (e x : Entry K.C) (xs : List (Entry K.C)) → T (before K e x) → push K e (x ∷ xs) ≡ e ∷ x ∷ xs
  unfolding push
  push_here e x xs h = rw (T_true (before K e x) h)

  push_past : (e x : Entry K.C) (xs : List (Entry K.C)) → T (not (before K e x)) → push K e (x ∷ xs) ≡ x ∷ push K e xs
  unfolding push
  push_past e x xs h = rw (T_false (before K e x) h)

  -- ---- the order of two pushes does not matter

  push_two : (a b : Entry K.C) → T (before K a b) → T (not (before K b a)) → (xs : List (Entry K.C)) → push K a (push K b xs) ≡ push K b (push K a xs)
  push_two a b h k [] = rw (push_nil a, push_nil b, push_here a b [] h, push_past b a [] k, push_nil b)
  push_two a b h k (x ∷ xs) =
      ⊎_elim
      (λ bx. rw (push_here b x xs bx, push_here a x xs (before_total.transitive a b x h bx), push_here a b (x ∷ xs) h, push_past b a (x ∷ xs) k, push_here b x xs bx))
      (λ bx.
      ⊎_elim
      (λ ax. rw (push_past b x xs bx, push_here a x xs ax, push_here a x (push K b xs) ax, push_past b a (x ∷ xs) k, push_past b x xs bx))
      (λ ax. rw (push_past b x xs bx, push_past a x xs ax, push_past a x (push K b xs) ax, push_past b x (push K a xs) bx) (ap (x ∷◌) (push_two a b h k xs)))
      (test (before K a x)))
      (test (before K b x))

  pub push_comm : (a b : Entry K.C) (xs : List (Entry K.C)) → push K a (push K b xs) ≡ push K b (push K a xs)
  push_comm a b xs =
      ⊎_elim
      (λ ab.
      ⊎_elim
      (λ ba. subst (λ (x : Entry K.C). push K a (push K x xs) ≡ push K x (push K a xs)) (before_total.antisymmetric a b ab ba) refl)
      (λ ba. push_two a b ab ba xs)
      (test (before K b a)))
      (λ ab. sym (push_two b a (before_total.total a b ab) ab xs))
      (test (before K a b))

  -- ---- the queue that a list of entries stands for

  pub sorted_length : (es : List (Entry K.C)) → length (sorted K es) ≡ length es
  unfolding sorted
  sorted_length [] = refl
  sorted_length (e ∷ es) = push_length K e (sorted K es) ∙ ap suc (sorted_length es)

  -- an entry anywhere in the list is pushed
  pub sorted_middle : (xs : List (Entry K.C)) (e : Entry K.C) (ys : List (Entry K.C)) → sorted K (xs ++ (e ∷ ys)) ≡ push K e (sorted K (xs ++ ys))
  unfolding sorted
  sorted_middle [] e ys = refl
  sorted_middle (x ∷ xs) e ys = ap (push K x) (sorted_middle xs e ys) ∙ push_comm x e (sorted K (xs ++ ys))

  -- a push: the entry behind the others
  pub sorted_push : (xs : List (Entry K.C)) (e : Entry K.C) → sorted K (xs ++ (e ∷ [])) ≡ push K e (sorted K xs)
  sorted_push xs e = sorted_middle xs e [] ∙ ap (λ (l : List (Entry K.C)). push K e (sorted K l)) (append-nil xs)

  -- ---- a take: the least of the list

  abbrev pub Least : Entry K.C → List (Entry K.C) → Type 0
  Least e xs = (x : Entry K.C) → Memᴰ x xs → T (before K e x)

  push_least : (e : Entry K.C) (xs : List (Entry K.C)) → Least e xs → push K e xs ≡ e ∷ xs
  unfolding push
  push_least e [] h = refl
  push_least e (x ∷ xs) h = push_here e x xs (h x (mathlib.Core.List.Memᴰ.head refl))

  pub least_push : (e a : Entry K.C) (xs : List (Entry K.C)) → T (before K e a) → Least e xs → Least e (push K a xs)
  unfolding push
  least_push e a [] h k = λ x m. ⊎_elim (λ d. subst (λ (y : Entry K.C). T (before K e y)) (sym d) h) (λ r. absurd (mathlib.Core.List.Memᴰ.not-nil r)) (mathlib.Core.List.Memᴰ.cases_cons m)
  least_push e a (y ∷ ys) h k =
      by_cond
      (Least e)
      (before K a y)
      (λ _ x m. ⊎_elim (λ d. subst (λ (z : Entry K.C). T (before K e z)) (sym d) h) (λ r. k x r) (mathlib.Core.List.Memᴰ.cases_cons m))
      (λ _ x m. ⊎_elim (λ d. k x (mathlib.Core.List.Memᴰ.head d)) (λ r. least_push e a ys h (λ z n. k z (mathlib.Core.List.Memᴰ.tail n)) x r) (mathlib.Core.List.Memᴰ.cases_cons m))

  least_sorted : (e : Entry K.C) (xs : List (Entry K.C)) → Least e xs → Least e (sorted K xs)
  unfolding sorted
  least_sorted e [] h = h
  least_sorted e (x ∷ xs) h = least_push e x (sorted K xs) (h x (mathlib.Core.List.Memᴰ.head refl)) (least_sorted e xs (λ z m. h z (mathlib.Core.List.Memᴰ.tail m)))

  pub sorted_least : (xs : List (Entry K.C)) (e : Entry K.C) (ys : List (Entry K.C)) → Least e (xs ++ ys) → sorted K (xs ++ (e ∷ ys)) ≡ e ∷ sorted K (xs ++ ys)
  sorted_least xs e ys h = sorted_middle xs e ys ∙ push_least e (sorted K (xs ++ ys)) (least_sorted e (xs ++ ys) h)

  -- ---- the same by places, as code has it: es are the entries of a lent list, the least stands at i, and the last at m takes its place

  module _ (d : Entry K.C) where
    mem_place : (x : Entry K.C) (es : List (Entry K.C)) → Memᴰ x es → (k : ℕ) × (k < length es) × (x ≡ get_or es k d)
    mem_place x [] m = absurd (mathlib.Core.List.Memᴰ.not-nil m)
    mem_place x (e ∷ es) m =
        ⊎_elim
        (λ (p : x ≡ e). (zero, omega arith, p))
        (λ (r : Memᴰ x es). let q = mem_place x es r in let h : q.0 < length es = q.1 in (suc q.0, suc-le-suc h, q.2))
        (mathlib.Core.List.Memᴰ.cases_cons m)

    mem_with : (x e : Entry K.C) (xs ys : List (Entry K.C)) → Memᴰ x (xs ++ ys) → Memᴰ x (xs ++ (e ∷ ys))
    mem_with x e [] ys m = mathlib.Core.List.Memᴰ.tail m
    mem_with x e (y ∷ xs) ys m = ⊎_elim (λ p. mathlib.Core.List.Memᴰ.head p) (λ r. mathlib.Core.List.Memᴰ.tail (mem_with x e xs ys r)) (mathlib.Core.List.Memᴰ.cases_cons m)

    -- the least is taken
    pub taken :
        (es : List (Entry K.C)) (i : ℕ) → i < length es →
        ((k : ℕ) → k < length es → T (before K (get_or es i d) (get_or es k d))) →
        sorted K es ≡ get_or es i d ∷ sorted K (take i es ++ drop (suc i) es)
    taken es i h least =
        ap (sorted K) (split_at es i d h)
        ∙ sorted_least (take i es) (get_or es i d) (drop (suc i) es) (λ x m.
        let q = mem_place x es (subst (Memᴰ x) (sym (split_at es i d h)) (mem_with x (get_or es i d) (take i es) (drop (suc i) es) m)) in
        subst (λ (y : Entry K.C). T (before K (get_or es i d) y)) (sym q.2) (least q.0 q.1))

    -- and the last takes its place
    pub filled :
        (es : List (Entry K.C)) (i m : ℕ) → length es ≡ suc m → i < m →
        sorted K (take m (set es i (get_or es m d))) ≡ sorted K (take i es ++ drop (suc i) es)
    filled es i m n h =
        let l : Entry K.C = get_or es m d in
        let j : ℕ = m - suc i in
        let D : List (Entry K.C) = drop (suc i) es in
        let long : length D ≡ suc j = length-drop (suc i) es ∙ omega arith in
        let back : D ≡ take j D ++ (l ∷ []) = sym (take_all (suc j) D (omega arith)) ∙ take-suc D j d (omega arith) ∙ ap (λ (y : Entry K.C). take j D ++ (y ∷ [])) (get_or-drop (suc i) es j d ∙ ap (λ (k : ℕ). get_or es k d) (omega arith)) in
        let front : length (take i es) ≡ i = length-take-le i es (omega arith) in
        let at-m : m ≡ length (take i es) + suc j = omega arith in
        let cut : take m (set es i l) ≡ take i es ++ (l ∷ take j D) = ap (take m) (set_split es i l (omega arith)) ∙ ap (λ (k : ℕ). take k (take i es ++ (l ∷ D))) at-m ∙ take-append-add (take i es) (l ∷ D) (suc j) in
        ap (sorted K) cut ∙ sorted_middle (take i es) l (take j D) ∙ sym (sorted_push (take i es ++ take j D) l) ∙ ap (sorted K) (append_assoc (take i es) (take j D) (l ∷ []) ∙ ap (take i es ++◌) (sym back))

    -- the last itself
    pub dropped : (es : List (Entry K.C)) (m : ℕ) → length es ≡ suc m → sorted K (take m es) ≡ sorted K (take m es ++ drop (suc m) es)
    dropped es m n = ap (sorted K) (sym (append-nil (take m es)) ∙ ap (take m es ++◌) (sym (drop_of_length-le es {i = suc m} (omega arith))))
