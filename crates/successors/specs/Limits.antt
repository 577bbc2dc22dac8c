-- Theorems: at most 50 steps from a window; each is allowed by the stack machine, and the keys of the window after it are below 64.
use Rattle.std.specs.Prelude.{ℕ, zero, suc, ◌+◌, ◌≤◌, ◌<◌, min, ◌≡◌, refl, Bool, true, false, ◌&&◌, ◌||◌, not, List, [], ◌∷◌, ◌++◌, get_or, set, drop, eqb, ltb}
use Rattle.std.proofs.Common.{length-append}
use native.Mathlib.Omega.{arith}
use borrow.Author.Tests.{lt-ltb, ne_eqb}
use Rattle.std.proofs.Math.ListN.{length}
use Rattle.costs.specs.Choice.{◌if◌otherwise◌}
use Rattle.costs.specs.declared.Step.{Step}
use Rattle.costs.specs.declared.Step.TheVariants.{Pop, Dup, Swap, PushImm, LoadVal}
use Rattle.replay.specs.Machine.{Rules, room, immediate, value, allows, after}
use Rattle.replay.specs.Laws.{and_left}
use Rattle.window.specs.Pack.{Keys}
use Rattle.window.specs.Laws.{key_lt, keys_set}
use Rattle.successors.specs.Parts.{offer, up_to, All, all_append, all_offer, all_up_to, all_each, all_if, offer_length, if_length, up_to_length, up_to_length_from, each_length_3}
use Rattle.successors.specs.Successors.{Question, suffix_start, is_first, first_at, firsts, kind_is, dominated, reached, swap_offered, dup_offered, other_offered, load_offered, pops, zero_at, swap_at, dup_at, other_at, load_at, grown, zeros, swaps, dups, others, loads, steps_from}

-- what an accepted question is known to keep to
pub record Bounds (q : Question) : Type 0 where
  pub dup : q.rules.dup_max ≤ 16
  pub swap : q.rules.swap_max ≤ 17
  pub window : q.rules.max_len ≤ 21
  pub goal : length q.goal ≤ 17
  pub keys : Keys 6 q.goal

-- ---- at most 50

firsts_length : (ks : List ℕ) → length (firsts ks) ≤ length ks
unfolding firsts
firsts_length ks = up_to_length (first_at ks) (length ks) (λ i. offer_length (is_first ks i) (get_or ks i 0))

one_kind : (x : ℕ) (b c : Bool) (s t u : Step) → length (offer (eqb x 2) s) + length (offer (eqb x 1 && b) t) + length (offer (eqb x 0 && c) u) ≤ 1
unfolding offer
one_kind zero b c s t u = omega (arith, offer_length c u)
one_kind (suc zero) b c s t u = omega (arith, offer_length b t)
one_kind (suc (suc n)) b c s t u =
    let n1 : suc (suc n) ≡ 1 → ⊥ = omega arith in
    let n0 : suc (suc n) ≡ 0 → ⊥ = omega arith in
    rw (ne_eqb (suc (suc n)) 1 n1, ne_eqb (suc (suc n)) 0 n0) (omega (arith, offer_length (eqb (suc (suc n)) 2) s))

-- a key is of one kind
shared : (kinds prices keys w : List ℕ) (reach : ℕ) → length (zeros kinds keys) + length (others kinds prices keys w reach) + length (loads kinds keys w reach) ≤ length keys
unfolding other_offered load_offered kind_is
shared kinds prices keys w reach =
    each_length_3 (zero_at kinds) (other_at kinds prices w reach) (load_at kinds w reach) keys
    (λ k. one_kind (get_or kinds k 0) (not (dominated prices w reach k)) (not (reached w reach k)) (PushImm k) (PushImm k) (LoadVal k))

swap_count : (w : List ℕ) (dup_max start last n : ℕ) → n ≤ 17 → length (up_to (swap_at w dup_max start last) n) ≤ 16
unfolding swap_offered offer up_to
swap_count w dup_max start last zero l = omega arith
swap_count w dup_max start last (suc n) l =
    omega (arith, up_to_length_from (swap_at w dup_max start last) n refl (λ i. offer_length (swap_offered w dup_max start last i) (Swap i)))

dup_count : (kinds goal w : List ℕ) (reach : ℕ) → length (dups kinds goal w reach) ≤ reach
dup_count kinds goal w reach = up_to_length (dup_at kinds goal w) reach (λ i. offer_length (dup_offered kinds goal w i) (Dup i))

-- the five parts of the steps, by their lengths
parts_at_most : (a z s d o l : List Step) (r t : Bool) → length a ≤ 1 → length z + length o + length l ≤ 17 → length s ≤ 16 → length d ≤ 16 → length (a ++ ((z if r otherwise []) ++ (s ++ ((d ++ (o ++ l)) if t otherwise [])))) ≤ 50
parts_at_most a z s d o l r t ha hz hs hd =
    omega (
      arith,
      if_length r z,
      if_length t (d ++ (o ++ l)),
      length-append o l,
      length-append d (o ++ l),
      length-append s ((d ++ (o ++ l)) if t otherwise []),
      length-append (z if r otherwise []) (s ++ ((d ++ (o ++ l)) if t otherwise [])),
      length-append a ((z if r otherwise []) ++ (s ++ ((d ++ (o ++ l)) if t otherwise []))),
    )

-- a window has at most 50 successors
pub steps_at_most : (q : Question) → Bounds q → (w : List ℕ) (last : ℕ) → length (steps_from q w last) ≤ 50
unfolding steps_from
steps_at_most q b w last =
    let r = q.rules in
    let keys = firsts q.goal in
    let reach = min (length w) r.dup_max in
    let g = firsts_length q.goal in
    let h = shared r.kinds q.prices keys w reach in
    let s = swap_count w r.dup_max (suffix_start w q.goal) last (min (length w) r.swap_max) (omega (arith, b)) in
    let d = dup_count r.kinds q.goal w reach in
    parts_at_most
    (pops w) (zeros r.kinds keys) (swaps w r.dup_max r.swap_max (suffix_start w q.goal) last)
    (dups r.kinds q.goal w reach) (others r.kinds q.prices keys w reach) (loads r.kinds keys w reach)
    (room r.max_len (length w)) (room r.max_len (length w))
    (offer_length (ltb 0 (length w)) Pop) (omega (arith, b)) s (omega (arith, b))

-- ---- each is allowed

-- a step that the machine allows on the window, and whose window has keys below 64
pub record Fine (q : Rules) (w : List ℕ) (s : Step) : Type 0 where
  pub allowed : allows q s (length w) ≡ true
  pub keys : Keys 6 (after s w)

or_l : (a b : Bool) → a ≡ true → (a || b) ≡ true
or_l a b p = rw p

or_r : (a b : Bool) → b ≡ true → (a || b) ≡ true
or_r true b p = refl
or_r false b p = p

pub firsts_keys : (ks : List ℕ) → Keys 6 ks → All (λ k. k < 64) (firsts ks)
unfolding firsts
firsts_keys ks h = all_up_to (λ k. k < 64) (first_at ks) (length ks) (λ i l. all_offer (λ k. k < 64) (is_first ks i) (get_or ks i 0) (λ e. key_lt 6 ks i h))

keys_drop : (xs : List ℕ) → Keys 6 xs → Keys 6 (drop 1 xs)
keys_drop [] h = tt
keys_drop (x ∷ xs) h = h.1

module _ (q : Rules) (w : List ℕ) (kw : Keys 6 w) where
  fine_pops : All (Fine q w) (pops w)
  unfolding allows after
  fine_pops = all_offer (Fine q w) (ltb 0 (length w)) Pop (λ e. record { allowed = e; keys = keys_drop w kw })

  pushed : (k : ℕ) → k < 64 → room q.max_len (length w) ≡ true → (eqb (get_or q.kinds k 0) 1 || eqb (get_or q.kinds k 0) 2) ≡ true → Fine q w (PushImm k)
  unfolding allows after immediate
  pushed k l r e = record { allowed = rw (lt-ltb k 64 l, e, r); keys = (l, kw) }

  fine_zero : room q.max_len (length w) ≡ true → (k : ℕ) → k < 64 → All (Fine q w) (zero_at q.kinds k)
  unfolding kind_is
  fine_zero r k l = all_offer (Fine q w) (kind_is q.kinds 2 k) (PushImm k) (λ e. pushed k l r (or_r (eqb (get_or q.kinds k 0) 1) _ e))

  fine_other : (prices : List ℕ) (reach : ℕ) → room q.max_len (length w) ≡ true → (k : ℕ) → k < 64 → All (Fine q w) (other_at q.kinds prices w reach k)
  unfolding other_offered kind_is
  fine_other prices reach r k l =
      all_offer (Fine q w) (other_offered q.kinds prices w reach k) (PushImm k)
      (λ e. pushed k l r (or_l _ (eqb (get_or q.kinds k 0) 2) (and_left (eqb (get_or q.kinds k 0) 1) (not (dominated prices w reach k)) e)))

  fine_load : (reach : ℕ) → room q.max_len (length w) ≡ true → (k : ℕ) → k < 64 → All (Fine q w) (load_at q.kinds w reach k)
  unfolding load_offered allows after value kind_is
  fine_load reach r k l =
      all_offer (Fine q w) (load_offered q.kinds w reach k) (LoadVal k)
      (λ e. let v = and_left (eqb (get_or q.kinds k 0) 0) (not (reached w reach k)) e in record { allowed = rw (lt-ltb k 64 l, v, r); keys = (l, kw) })

  fine_dup : (goal : List ℕ) → room q.max_len (length w) ≡ true → (p : ℕ) → p < min (length w) q.dup_max → All (Fine q w) (dup_at q.kinds goal w p)
  unfolding allows after
  fine_dup goal r p l =
      let a : p < q.dup_max = omega arith in
      let b : p < length w = omega arith in
      all_offer (Fine q w) (dup_offered q.kinds goal w p) (Dup p)
      (λ e. record { allowed = rw (lt-ltb _ _ a, lt-ltb _ _ b, r); keys = (key_lt 6 w p kw, kw) })

  fine_swap : (start last d : ℕ) → d < min (length w) q.swap_max → All (Fine q w) (swap_at w q.dup_max start last d)
  unfolding swap_offered allows after
  fine_swap start last d l =
      let a : d < q.swap_max = omega arith in
      let b : d < length w = omega arith in
      all_offer (Fine q w) (swap_offered w q.dup_max start last d) (Swap d)
      (λ e. record {
        allowed = let z = and_left (ltb 0 d) _ e in rw (z, lt-ltb _ _ a, lt-ltb _ _ b);
        keys = keys_set 6 (set w 0 (get_or w d 0)) d (get_or w 0 0) (keys_set 6 w 0 (get_or w d 0) kw (key_lt 6 w d kw)) (key_lt 6 w 0 kw);
      })

-- every step of an expansion is
pub steps_fine : (q : Question) (w : List ℕ) → Keys 6 w → Keys 6 q.goal → (last : ℕ) → All (Fine q.rules w) (steps_from q w last)
unfolding steps_from
steps_fine q w kw kg last =
    let u = q.rules in
    let ks = firsts q.goal in
    let fk = firsts_keys q.goal kg in
    let P : Step → Type 0 = Fine u w in
    let d = u.dup_max in
    let e = min (length w) d in
    let zs = zeros u.kinds ks in
    let ds = dups u.kinds q.goal w e in
    let os = others u.kinds q.prices ks w e in
    let ls = loads u.kinds ks w e in
    let start = suffix_start w q.goal in
    all_append P (pops w) _ (fine_pops u w kw)
    (all_append P (grown u.max_len (length w) zs) _
    (all_if P _ zs (λ r. all_each P (zero_at u.kinds) _ ks fk (fine_zero u w kw r)))
    (all_append P (swaps w d u.swap_max start last) _ (all_up_to P (swap_at w d start last) _ (fine_swap u w kw start last))
    (all_if P _ (ds ++ (os ++ ls))
    (λ r. all_append P ds _ (all_up_to P (dup_at u.kinds q.goal w) _ (fine_dup u w kw q.goal r))
    (all_append P os _ (all_each P (other_at u.kinds q.prices w e) _ ks fk (fine_other u w kw q.prices e r))
    (all_each P (load_at u.kinds w e) _ ks fk (fine_load u w kw e r)))))))
