-- Laws of the node list, on plain lists. Assumes nothing.
use Rattle.std.proofs.Common.{◌≡◌, ◌≢◌, refl, sym, ap, ap₂, ◌∙◌, ⊎_elim, Bool, true, false, Option, Some, None, List, ℕ, zero, suc, ◌+◌, ◌*◌, ◌/◌, ◌^◌, ◌≤◌, ◌<◌, min, arith, length, get_or, set, length-set, eqb, mod-lt}
use Rattle.std.proofs.lemmas.Bool.{cases_Bool, false_from_ne_true, cases_eq, cases_lt, and_parts, eqb-true, lt-ltb, le-ltb}
use Rattle.std.proofs.lemmas.List.{get_or-set_same, get_or-set_other}
use Rattle.std.proofs.lemmas.Grind.{elements}
use Rattle.std.proofs.Math.Nat.{mul-lt-mul_of_pos_right, mul-le-mul}
use Rattle.costs.specs.Laws.{some_injective}
use Rattle.window.specs.declared.PackedState.{PackedState}
use Rattle.nodes.specs.declared.Row.{Row}
use Rattle.nodes.specs.Nodes.{node_of, state_at, row_at, written, rows, is_state, lookup, bucket_of, bucket_at, Led, Leads, Chained, Wrote}

pub scaled_fits : (k w : ℕ) → k < 4294967296 → w ≤ 4294967295 → k * w < 2 ^ 64
scaled_fits k w l h =
    let b : k ≤ 4294967295 = omega arith in
    let p : k * w ≤ 18446744065119617025 = mul-le-mul b h in
    omega arith

-- a number of 32 bits, scaled to m, is below m
scaled : (k m : ℕ) → k < 4294967296 → 0 < m → k * min m 4294967295 / 2 ^ 32 < m
scaled k m l h =
    let w : 0 < min m 4294967295 = omega arith in
    let p : k * min m 4294967295 < 4294967296 * min m 4294967295 = mul-lt-mul_of_pos_right l w in
    omega arith

pub bucket_lt : (s : PackedState) (m : ℕ) → 0 < m → bucket_of s m < m
unfolding bucket_of
bucket_lt s m h = scaled _ m (mod-lt _ (omega arith)) h

-- a node of a state holds the state, so it is in the state's bucket
pub state_is : (xs : List ℕ) (i : ℕ) (s : PackedState) → is_state (row_at xs i) s ≡ true → state_at xs i ≡ s
state_is xs i s e =
    let t = and_parts (eqb (get_or xs (i * 8) 0) s.hi) (eqb (get_or xs (i * 8 + 1) 0) s.lo) e in
    ap₂ (λ (a b : ℕ). record { hi = a; lo = b }) (eqb-true (get_or xs (i * 8) 0) s.hi t.0) (eqb-true (get_or xs (i * 8 + 1) 0) s.lo t.1)

pub state_bucket : (xs : List ℕ) (m i : ℕ) (s : PackedState) → is_state (row_at xs i) s ≡ true → bucket_at xs m i ≡ bucket_of s m
state_bucket xs m i s e = ap (λ (v : PackedState). bucket_of v m) (state_is xs i s e)

pub length_rows : (xs : List ℕ) (n : ℕ) → length (rows xs n) ≡ n
unfolding rows
length_rows xs zero = refl
length_rows xs (suc n) = ap suc (length_rows xs n)

module _ (xs : List ℕ) (s : PackedState) where
  -- no node of the first n has the state
  pub lookup_none : (n : ℕ) → ((i : ℕ) → i < n → is_state (row_at xs i) s ≡ true → ⊥) → None ≡ lookup (rows xs n) s
  unfolding lookup rows
  lookup_none zero none = refl
  lookup_none (suc n) none =
      rw (false_from_ne_true (is_state (row_at xs n) s) (none n (omega arith))) (lookup_none n (λ i l. none i (omega arith)))

  -- the last of the first n that has it is cur
  pub lookup_at : (cur n : ℕ) → cur < n → is_state (row_at xs cur) s ≡ true → ((i : ℕ) → i < n → is_state (row_at xs i) s ≡ true → i ≤ cur) → Some cur ≡ lookup (rows xs n) s
  unfolding lookup rows
  lookup_at cur zero l here last = absurd (omega arith)
  lookup_at cur (suc n) l here last =
      ⊎_elim (λ q. rw (← q, here, length_rows xs cur))
      (λ ne. rw (false_from_ne_true (is_state (row_at xs n) s) (λ e. ne (omega (arith, last n (omega arith) e)))) (lookup_at cur n (omega arith) here (λ i li. last i (omega arith))))
      (cases_eq cur n)

-- what a look-up found is there
pub lookup_found : (xs : List ℕ) (s : PackedState) (i n : ℕ) → Some i ≡ lookup (rows xs n) s → (i < n) × (is_state (row_at xs i) s ≡ true)
unfolding lookup rows
lookup_found xs s i zero e = cc
lookup_found xs s i (suc n) e =
    ⊎_elim
    (λ t. let q : i ≡ n = some_injective i n ((rw t at e) ∙ ap Some (length_rows xs n)) in (omega arith, rw q t))
    (λ f. let h = lookup_found xs s i n (rw f at e) in (omega (arith, h.0), h.1))
    (cases_Bool (is_state (row_at xs n) s))

-- where a look-up found nothing, no node has the state
pub lookup_missing : (xs : List ℕ) (s : PackedState) (n : ℕ) → None ≡ lookup (rows xs n) s → (k : ℕ) → k < n → is_state (row_at xs k) s ≡ true → ⊥
unfolding lookup rows
lookup_missing xs s zero e k l h = omega arith
lookup_missing xs s (suc n) e k l h =
    ⊎_elim
    (λ t. cc (rw t at e))
    (λ f. ⊎_elim (λ q. cc (ap (λ (j : ℕ). is_state (row_at xs j) s) q)) (λ ne. lookup_missing xs s n (rw f at e) k (omega arith) h) (cases_eq k n))
    (cases_Bool (is_state (row_at xs n) s))

-- a node below n has its own number,
node_is : (i n : ℕ) → i < n → node_of i n ≡ Some i
node_is i n l = rw (lt-ltb i n l)

-- and no other
node_below : (i n j : ℕ) → node_of i n ≡ Some j → j < n
node_below i n j e =
    ⊎_elim
    (λ l. let q : i ≡ j = some_injective i j (sym (node_is i n l) ∙ e) in omega arith)
    (λ g. cc (rw (le-ltb i n g) at e))
    (cases_lt i n)

-- a walk along the chain of the state's bucket has come to the node cur, which leads to every node of that state
pub record Walk (xs hs : List ℕ) (n : ℕ) (s : PackedState) (cur : Option ℕ) : Type 0 where
  pub within : (j : ℕ) → cur ≡ Some j → j < n
  pub leads : (i : ℕ) → i < n → is_state (row_at xs i) s ≡ true → (j : ℕ) × (cur ≡ Some j) × Led xs (length hs) n (bucket_of s (length hs)) j i

pub walk_start : {xs hs : List ℕ} {n : ℕ} (s : PackedState) {cur : Option ℕ} → Chained xs hs n → cur ≡ node_of (get_or hs (bucket_of s (length hs)) 0) n → Walk xs hs n s cur
walk_start {xs} {hs} {n} s ch e = record {
  within = λ j q. node_below _ n j (sym e ∙ q);
  leads = λ i l si.
      let b = bucket_of s (length hs) in
      let d = ch.heads b (bucket_lt s (length hs) ch.some) i l (state_bucket xs (length hs) i s si) in
      (get_or hs b 0, e ∙ node_is _ n d.below, d);
}

module _ {xs hs : List ℕ} {n : ℕ} {s : PackedState} {cur : Option ℕ} {i : ℕ} (ch : Chained xs hs n) (w : Walk xs hs n s cur) (at : cur ≡ Some i) where
  -- node i reaches whatever has the state
  reached : (k : ℕ) → k < n → is_state (row_at xs k) s ≡ true → Led xs (length hs) n (bucket_of s (length hs)) i k
  reached k l e =
      let t = w.leads k l e in
      rw (some_injective i t.0 (sym at ∙ t.1)) t.2

  pub walk_next : {t : Bool} → t ≡ is_state (row_at xs i) s → t ≡ false → {to : Option ℕ} → to ≡ node_of (get_or xs (i * 8 + 6) 0) i → Walk xs hs n s to
  walk_next te f e = record {
    within = λ j q. omega (arith, node_below _ i j (sym e ∙ q), w.within i at);
    leads = λ k l sk.
        let h = reached k l sk in
        let ne : k ≢ i = λ q. cc (ap (λ (j : ℕ). is_state (row_at xs j) s) q) in
        let d = ch.nexts i (w.within i at) k (omega (arith, h.reach)) (state_bucket xs (length hs) k s sk ∙ sym h.bucket) in
        let to = get_or xs (i * 8 + 6) 0 in
        (to, e ∙ node_is _ i d.below, record { reach = d.reach; below = omega (arith, d.below, h.below); bucket = d.bucket ∙ h.bucket });
  }

  pub walk_found : {t : Bool} → t ≡ is_state (row_at xs i) s → t ≡ true → Some i ≡ lookup (rows xs n) s
  walk_found te e = lookup_at xs s i n (w.within i at) (cc) (λ k l sk. (reached k l sk).reach)

pub walk_none : {xs hs : List ℕ} {n : ℕ} {s : PackedState} {cur : Option ℕ} → Walk xs hs n s cur → cur ≡ None → None ≡ lookup (rows xs n) s
walk_none {xs} {hs} {n} {s} w end = lookup_none xs s n (λ i l si. cc ((w.leads i l si).1))

-- how many nodes may still be seen
abbrev pub left : Option ℕ → ℕ
left None = 0
left (Some i) = suc i

pub fewer_left : (x i : ℕ) (cur to : Option ℕ) → cur ≡ Some i → to ≡ node_of x i → left to < left cur
fewer_left x i cur None at e = rw at (omega arith)
fewer_left x i cur (Some j) at e = let l : j < i = node_below x i j (sym e) in rw at (omega arith)

-- ---- a node written

module _ (xs : List ℕ) (i : ℕ) (v : Row) (nx : ℕ) (room : i * 8 + 8 ≤ length xs) where
  abbrev ys : List ℕ
  ys = written xs (i * 8) v nx

  length_ys : length ys ≡ length xs
  length_ys = grind (arith, elements)

  row_new : row_at ys i ≡ v
  row_new = grind (arith, elements)

  row_other : (k : ℕ) → k ≢ i → row_at ys k ≡ row_at xs k
  row_other k ne = grind (arith, elements)

  next_new : get_or ys (i * 8 + 6) 0 ≡ nx
  next_new = grind (arith, elements)

  next_other : (k : ℕ) → k ≢ i → get_or ys (k * 8 + 6) 0 ≡ get_or xs (k * 8 + 6) 0
  next_other k ne = grind (arith, elements)

  bucket_new : (m : ℕ) → bucket_at ys m i ≡ bucket_of v.state m
  bucket_new m = ap (λ (r : Row). bucket_of r.state m) row_new

  bucket_other : (m k : ℕ) → k ≢ i → bucket_at ys m k ≡ bucket_at xs m k
  bucket_other m k ne = ap (λ (r : Row). bucket_of r.state m) (row_other k ne)

  pub wrote : Wrote xs ys i v
  wrote = record { new = row_new; others = row_other }

  -- the same buckets below lim lead where they led
  leads_same : (m lim b h : ℕ) → ((k : ℕ) → k < lim → bucket_at ys m k ≡ bucket_at xs m k) → Leads xs m lim b h → Leads ys m lim b h
  leads_same m lim b h same leads j l e =
      let d = leads j l (sym (same j l) ∙ e) in
      record { reach = d.reach; below = d.below; bucket = same h d.below ∙ d.bucket }

  -- one more node
  module _ (hs : List ℕ) (ch : Chained xs hs i) (b : ℕ) (be : b ≡ bucket_of v.state (length hs)) (ne : nx ≡ get_or hs b 0) where
    b_lt : b < length hs
    b_lt = rw be (bucket_lt v.state (length hs) ch.some)

    same_below : (lim : ℕ) → lim ≤ i → (k : ℕ) → k < lim → bucket_at ys (length hs) k ≡ bucket_at xs (length hs) k
    same_below lim le k l = bucket_other (length hs) k (omega arith)

    heads_more : (c : ℕ) → c < length hs → Leads ys (length hs) (i + 1) c (get_or (set hs b i) c 0)
    heads_more c l j lj e = ⊎_elim mine other (cases_eq c b)
      where
        mine : c ≡ b → Led ys (length hs) (i + 1) c (get_or (set hs b i) c 0) j
        mine q = rw (q, get_or-set_same hs b i 0 b_lt) (record { reach = omega arith; below = omega arith; bucket = bucket_new (length hs) ∙ sym be })

        other : c ≢ b → Led ys (length hs) (i + 1) c (get_or (set hs b i) c 0) j
        other q =
            let apart : j ≢ i = λ r. q (sym e ∙ ap (bucket_at ys (length hs)) r ∙ bucket_new (length hs) ∙ sym be) in
            let d = leads_same (length hs) i c (get_or hs c 0) (same_below i (omega arith)) (ch.heads c l) j (omega arith) e in
            rw (get_or-set_other hs b c i 0 q) (record { reach = d.reach; below = omega (arith, d.below); bucket = d.bucket })

    nexts_more : (j : ℕ) → j < i + 1 → Leads ys (length hs) j (bucket_at ys (length hs) j) (get_or ys (j * 8 + 6) 0)
    nexts_more j l = ⊎_elim mine other (cases_eq j i)
      where
        mine : j ≡ i → Leads ys (length hs) j (bucket_at ys (length hs) j) (get_or ys (j * 8 + 6) 0)
        mine q = let to : get_or ys (i * 8 + 6) 0 ≡ get_or hs b 0 = next_new ∙ ne in rw (q, bucket_new (length hs), ← be, to) (leads_same (length hs) i b (get_or hs b 0) (same_below i (omega arith)) (ch.heads b b_lt))

        other : j ≢ i → Leads ys (length hs) j (bucket_at ys (length hs) j) (get_or ys (j * 8 + 6) 0)
        other q =
            rw (bucket_other (length hs) j q, next_other j q)
            (leads_same (length hs) j (bucket_at xs (length hs) j) (get_or xs (j * 8 + 6) 0) (same_below j (omega arith)) (ch.nexts j (omega arith)))

    pub chained_more : Chained ys (set hs b i) (i + 1)
    chained_more = record {
      room = omega (arith, length_ys);
      some = rw length-set ch.some;
      heads = rw length-set heads_more;
      nexts = rw length-set nexts_more;
    }

  -- another row for a state
  module _ (st : is_state (row_at xs i) v.state ≡ true) (ne : nx ≡ get_or xs (i * 8 + 6) 0) where
    bucket_same : (m k : ℕ) → bucket_at ys m k ≡ bucket_at xs m k
    bucket_same m k = ⊎_elim (λ q. rw q (bucket_new m ∙ sym (state_bucket xs m i v.state st))) (bucket_other m k) (cases_eq k i)

    next_same : (k : ℕ) → get_or ys (k * 8 + 6) 0 ≡ get_or xs (k * 8 + 6) 0
    next_same k = ⊎_elim (λ q. rw q (next_new ∙ ne)) (next_other k) (cases_eq k i)

    pub chained_same : (hs : List ℕ) (n : ℕ) → Chained xs hs n → Chained ys hs n
    chained_same hs n ch = record {
      room = omega (arith, length_ys, ch.room);
      some = ch.some;
      heads = λ b l. leads_same (length hs) n b (get_or hs b 0) (λ k _. bucket_same (length hs) k) (ch.heads b l);
      nexts = λ j l. rw (bucket_same (length hs) j, next_same j) (leads_same (length hs) j (bucket_at xs (length hs) j) (get_or xs (j * 8 + 6) 0) (λ k _. bucket_same (length hs) k) (ch.nexts j l));
    }

-- nothing is asked of what the lists held before the first node
pub chained_empty : (xs hs : List ℕ) → 0 < length hs → Chained xs hs 0
chained_empty xs hs h = record {
  room = omega arith;
  some = h;
  heads = λ b l i li e. absurd (omega arith);
  nexts = λ j l. absurd (omega arith);
}

-- what `insert` and `update` ensure, from what they do
module _ (xs ys : List ℕ) (i : ℕ) (v : Row) (nx : ℕ) (e : ys ≡ written xs (i * 8) v nx) where
  pub wrote_row : i * 8 + 8 ≤ length xs → Wrote xs ys i v
  wrote_row room = rw e (wrote xs i v nx room)

  pub inserted_chained : (hs : List ℕ) (b : ℕ) → i * 8 + 8 ≤ length xs → Chained xs hs i → b ≡ bucket_of v.state (length hs) → nx ≡ get_or hs b 0 → Chained ys (set hs b i) (i + 1)
  inserted_chained hs b room ch be ne = rw e (chained_more xs i v nx room hs ch b be ne)

  pub updated_chained : (hs : List ℕ) (n : ℕ) → i * 8 + 8 ≤ length xs → is_state (row_at xs i) v.state ≡ true → nx ≡ get_or xs (i * 8 + 6) 0 → Chained xs hs n → Chained ys hs n
  updated_chained hs n room st ne ch = rw e (chained_same xs i v nx room st ne hs n ch)
