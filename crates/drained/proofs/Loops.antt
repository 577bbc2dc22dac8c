-- The two loops keep one queue in the face and in the heap.
use mathlib.Core.Path.{◌≡◌, refl, sym, subst, ◌∙◌}
use mathlib.Core.Bool.{Bool, true, false}
use mathlib.Core.List.{List}
use Prim.Native.Nat.{ℕ, ◌+◌, ◌-◌, ◌<◌, ◌≤◌}
use native.Mathlib.Omega.{arith}
use lib.ListN.{length}
use Rattle.costs.specs.declared.Cost.{Cost}
use Rattle.heap.specs.declared.Entry.{Entry}
use Rattle.lists.specs.View.{waits, Pushed as HeapPushed, Taken as HeapTaken}
use Rattle.face.specs.Open.{entry_of, first, Pushed, Taken}
use Rattle.std.specs.Prelude.{Option, Some, None}
use Rattle.drained.specs.Agree.{Agree, none_agree, push_agree, take_agree, heads_agree, never_empty}

-- the first i entries are in both
pub record Filling (xs₀ xs : List ℕ) (s : List (Entry Cost)) (i : ℕ) : Type 0 where
  pub upto : i ≤ 40
  pub room : 160 ≤ length xs
  pub long : length xs ≡ length xs₀
  pub agree : Agree s xs i

-- the last n are in both
pub record Draining (xs₀ xs : List ℕ) (s : List (Entry Cost)) (n : ℕ) : Type 0 where
  pub upto : n ≤ 40
  pub long : length xs ≡ length xs₀
  pub agree : Agree s xs n

pub fill_start : (xs : List ℕ) (s : List (Entry Cost)) → 160 ≤ length xs → length s ≡ 64 → Filling xs xs s 0
fill_start xs s h l = record { upto = omega arith; room = h; long = refl; agree = none_agree s xs l }

pub fill_on : (xs₀ xs ys : List ℕ) (s t : List (Entry Cost)) (i : ℕ) (e : Entry Cost) (h : Entry ℕ) (b : Bool) → Filling xs₀ xs s i → i < 40 → waits h ≡ entry_of e → Pushed s t i e b → HeapPushed xs i h ys → length ys ≡ length xs → Filling xs₀ ys t (i + 1)
fill_on xs₀ xs ys s t i e h b f l is p q same =
    record { upto = omega arith; room = let r : 160 ≤ length xs = f.room in omega arith; long = same ∙ f.long; agree = push_agree s t xs ys i e h b f.agree (omega arith) is p q }

pub fill_end : (xs₀ xs : List ℕ) (s : List (Entry Cost)) (i : ℕ) → Filling xs₀ xs s i → 40 ≤ i → Agree s xs 40
fill_end xs₀ xs s i f l = let u : i ≤ 40 = f.upto in let is : i ≡ 40 = omega arith in subst (Agree s xs) is f.agree

pub drain_start : (xs : List ℕ) (s : List (Entry Cost)) → Agree s xs 40 → Draining xs xs s 40
drain_start xs s a = record { upto = omega arith; long = refl; agree = a }

pub drain_on : (xs₀ xs ys : List ℕ) (s t : List (Entry Cost)) (n : ℕ) (h : Entry ℕ) → Draining xs₀ xs s n → 0 < n → Taken s t n (first s n) → HeapTaken xs n h ys (n - 1) → length ys ≡ length xs → Draining xs₀ ys t (n - 1)
drain_on xs₀ xs ys s t n h d l p q same = record { upto = let u : n ≤ 40 = d.upto in omega arith; long = same ∙ d.long; agree = take_agree s t xs ys n h d.agree l p q }

-- ---- the entries compared

pub no_empty : (xs₀ xs : List ℕ) (s u : List (Entry Cost)) (n : ℕ) (r : Option (Entry Cost)) → Draining xs₀ xs s n → 0 < n → Taken s u n r → r ≡ None → false ≡ true
no_empty xs₀ xs s u n r d l t is = absurd (never_empty s xs n d.agree l u (subst (Taken s u n) is t))

pub no_other : (xs₀ xs ys : List ℕ) (s t u : List (Entry Cost)) (n : ℕ) (r : Option (Entry Cost)) (e : Entry Cost) (h : Entry ℕ) (b : Bool) → Draining xs₀ xs s n → 0 < n → Taken s u n r → r ≡ Some e → Taken s t n (first s n) → HeapTaken xs n h ys (n - 1) → (entry_of e ≡ waits h → b ≡ true) → b ≡ false → false ≡ true
no_other xs₀ xs ys s t u n r e h b d l p is q w same differs = sym differs ∙ same (heads_agree s t xs ys n h d.agree l e u (subst (Taken s u n) is p) q w)
