-- The face and the heap hold the same queue, and the same of both keeps it so: each promises the search's push, and its head and rest.
use Rattle.std.specs.Prelude.{◌≡◌, refl, Bool, true, cond, List, ◌∷◌, ℕ, ◌+◌, ◌-◌, ◌<◌, ◌≤◌, length, set}
use Rattle.std.proofs.Common.{sym, ap, ◌∙◌, arith, not-suc-le-zero, lt-ltb, le-leb, length-set}
use Rattle.costs.specs.declared.Cost.{Cost}
use Rattle.astar.specs.Search.{Entry as Waiting, push}
use Rattle.algebra.specs.GasBytes.{gas_bytes}
use Rattle.astar.specs.Bag.{sorted}
use Rattle.heap.specs.declared.Entry.{Entry}
use Rattle.heap.specs.Heap.{sort}
use Rattle.lists.specs.View.{waits, queue_of, Piled, Pushed as HeapPushed, Taken as HeapTaken}
use Rattle.face.specs.Open.{entry_of, queue_in, free, held, least_of, without, first, Pushed, Taken}
use Rattle.std.specs.Prelude.{Some, None}

-- n entries in 64 places and in the heap, and one queue of both
pub record Agree (s : List (Entry Cost)) (xs : List ℕ) (n : ℕ) : Type 0 where
  pub places : length s ≡ 64
  pub upto : n ≤ 64
  pub piled : Piled xs n
  pub queue : queue_in s n ≡ queue_of xs n

pub none_agree : (s : List (Entry Cost)) (xs : List ℕ) → length s ≡ 64 → Agree s xs 0
unfolding queue_in sorted sort
none_agree s xs h = record { places = h; upto = omega arith; piled = record { heap = λ j p q. absurd (not-suc-le-zero q); room = omega arith }; queue = refl }

-- an entry pushed to both
pub push_agree : (s t : List (Entry Cost)) (xs ys : List ℕ) (n : ℕ) (e : Entry Cost) (h : Entry ℕ) (b : Bool) → Agree s xs n → n < 64 → waits h ≡ entry_of e → Pushed s t n e b → HeapPushed xs n h ys → Agree t ys (n + 1)
push_agree s t xs ys n e h b a l is p q =
    let long : length s ≡ 64 = a.places in
    let room : free s n ≡ true = lt-ltb n (length s) (omega arith) in
    let t-is : t ≡ set s n e = p.list ∙ ap (λ (z : Bool). cond z (set s n e) s) room in
    record {
      places = ap length t-is ∙ length-set s n e ∙ long;
      upto = omega arith;
      piled = q.piled;
      queue = p.queue room ∙ ap (push gas_bytes (entry_of e)) a.queue ∙ ap (λ (x : Waiting Cost). push gas_bytes x (queue_of xs n)) (sym is) ∙ sym q.pushed;
    }

-- the least taken from both
full : (s : List (Entry Cost)) (xs : List ℕ) (n : ℕ) → Agree s xs n → 0 < n → held s n ≡ true
full s xs n a l = let long : length s ≡ 64 = a.places in let k : n ≤ 64 = a.upto in rw (lt-ltb 0 n l, le-leb n (length s) (omega arith))

module _ (s t : List (Entry Cost)) (xs ys : List ℕ) (n : ℕ) (h : Entry ℕ) (a : Agree s xs n) (l : 0 < n) where
  both : Taken s t n (first s n) → HeapTaken xs n h ys (n - 1) → entry_of (least_of s n) ∷ queue_in t (n - 1) ≡ waits h ∷ queue_of ys (n - 1)
  both p q = sym (p.queue (full s xs n a l)) ∙ a.queue ∙ q.taken

  pub take_agree : Taken s t n (first s n) → HeapTaken xs n h ys (n - 1) → Agree t ys (n - 1)
  take_agree p q =
      let k : n ≤ 64 = a.upto in
      let t-is : t ≡ without s n = p.list ∙ ap (λ (z : Bool). cond z (without s n) s) (full s xs n a l) in
      record { places = ap length t-is ∙ length-set s _ _ ∙ a.places; upto = omega arith; piled = q.piled; queue = tails (both p q) }
    where
      tails : {x y : Waiting Cost} {us vs : List (Waiting Cost)} → x ∷ us ≡ y ∷ vs → us ≡ vs
      tails e = cc

  pub heads_agree : (e : Entry Cost) (u : List (Entry Cost)) → Taken s u n (Some e) → Taken s t n (first s n) → HeapTaken xs n h ys (n - 1) → entry_of e ≡ waits h
  heads_agree e u r p q = ap entry_of (inside (r.answer ∙ ap (λ (z : Bool). cond z (Some (least_of s n)) None) (full s xs n a l))) ∙ heads (both p q)
    where
      inside : {x y : Entry Cost} → Some x ≡ Some y → x ≡ y
      inside e = cc

      heads : {x y : Waiting Cost} {us vs : List (Waiting Cost)} → x ∷ us ≡ y ∷ vs → x ≡ y
      heads e = cc

pub never_empty : (s : List (Entry Cost)) (xs : List ℕ) (n : ℕ) → Agree s xs n → 0 < n → (u : List (Entry Cost)) → Taken s u n None → ⊥
never_empty s xs n a l u r = clash (r.answer ∙ ap (λ (z : Bool). cond z (Some (least_of s n)) None) (full s xs n a l))
  where
    clash : {x : Entry Cost} → None ≡ Some x → ⊥
    clash e = let z : ◌≡◌ {A = ℕ} 0 1 = cc in omega arith
