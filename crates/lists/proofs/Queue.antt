-- What the open list's functions do, in the theory's definitions.
use Rattle.std.proofs.Common.{◌≡◌, refl, sym, ap, ◌∙◌, inl, inr, List, [], ◌∷◌, map, ℕ, zero, suc, ◌+◌, ◌-◌, ◌*◌, ◌^◌, ◌≤◌, ◌<◌, arith, leb, length}
use Rattle.std.proofs.lemmas.Bool.{cases_Bool}
use Rattle.std.proofs.lemmas.Bool.Decides.{nat_tests}
use Rattle.std.proofs.lemmas.List.{length-map}
use Rattle.astar.specs.Cost.{lex}
use Rattle.astar.specs.Search.{Entry, before, push}
use Rattle.costs.specs.declared.Cost.{Cost}
use Rattle.costs.specs.Packed.{cost_of}
use Rattle.window.specs.State.{whole}
use Rattle.algebra.specs.GasBytes.{gas_bytes}
use Rattle.heap.specs.Heap.{digit, key_of, decode, ins, sort, sorted, Heap}
use Rattle.heap.specs.declared.Entry.{Entry as Waiting}
use Rattle.lists.specs.View.{waits, entry_at, queue_of, Piled, Pushed, Taken}

-- ---- costs and keys

pub cost_le : (a b : ℕ) → gas_bytes.le (cost_of a) (cost_of b) ≡ leb a b
unfolding cost_of lex
cost_le a b = grind (arith, nat_tests)

key_before : (k k' : ℕ) → before gas_bytes (entry_at k) (entry_at k') ≡ leb k k'
unfolding before decode whole lex
key_before k k' = simp cost_le (grind (arith, nat_tests))

-- ---- the queue

ins_push : (k : ℕ) (ks : List ℕ) → map entry_at (ins k ks) ≡ push gas_bytes (entry_at k) (map entry_at ks)
unfolding ins push
ins_push k [] = refl
ins_push k (x ∷ ks) =
    elim (cases_Bool (leb k x)) [
      | inl t ↦ rw (key_before k x, t)
      | inr f ↦ rw (key_before k x, f) (ap (λ (l : List (Entry Cost)). entry_at x ∷ l) (ins_push k ks))
    ]

-- the entry of a key is the entry that it was made of
pub key_entry : (e : Waiting ℕ) → e.g < 2 ^ 64 → e.state.hi < 2 ^ 64 → e.state.lo < 2 ^ 64 → decode (key_of e) ≡ e
unfolding decode digit
key_entry e g hi lo = grind arith

pub pushed_heap : (xs ys : List ℕ) (m : ℕ) (e : Waiting ℕ) → e.g < 2 ^ 64 → e.state.hi < 2 ^ 64 → e.state.lo < 2 ^ 64 → m * 4 + 4 ≤ length xs → length ys ≡ length xs → Heap ys (m + 1) → sorted ys (m + 1) ≡ ins (key_of e) (sorted xs m) → Pushed xs m e ys
pushed_heap xs ys m e sg sh sl room long h q = record {
  pushed = ap (map entry_at) q ∙ ins_push (key_of e) (sorted xs m) ∙ ap (λ (x : Waiting ℕ). push gas_bytes (waits x) (queue_of xs m)) (key_entry e sg sh sl);
  piled = record { heap = h; room = omega arith };
}

pub taken_heap : (xs ys : List ℕ) (m : ℕ) (e : Waiting ℕ) → Piled xs m → 0 < m → length ys ≡ length xs → Heap ys (m - 1) → key_of e ∷ sorted ys (m - 1) ≡ sorted xs m → decode (key_of e) ≡ e → Taken xs m e ys (m - 1)
taken_heap xs ys m e P pos long h q d = record {
  taken = sym (ap (map entry_at) q) ∙ ap (λ (x : Waiting ℕ). waits x ∷ queue_of ys (m - 1)) d;
  piled = record { heap = h; room = omega (arith, P.room) };
}

ins_length : (k : ℕ) (ks : List ℕ) → length (ins k ks) ≡ suc (length ks)
unfolding ins
ins_length k [] = refl
ins_length k (x ∷ ks) = elim (cases_Bool (leb k x)) [ inl t ↦ rw t | inr f ↦ rw f (ap suc (ins_length k ks)) ]

sort_length : (K : ℕ → ℕ) (n : ℕ) → length (sort K n) ≡ n
unfolding sort
sort_length K zero = refl
sort_length K (suc n) = ins_length (K n) (sort K n) ∙ ap suc (sort_length K n)

pub queue_length : (xs : List ℕ) (m : ℕ) → length (queue_of xs m) ≡ m
queue_length xs m = length-map (sorted xs m) entry_at ∙ sort_length _ m
