-- What dup-and-star's second phase needs and gives: copies, keys made, and the missing keys in rising order.
use Rattle.std.specs.Prelude.{◌⊎◌, ℕ, zero, suc, ◌+◌, ◌-◌, ◌*◌, ◌<◌, ◌≤◌, Bool, true, false, List, ◌==◌, ◌≡◌, refl, [], ◌∷◌, Option, None, Some, IfSome, cond, min, length, get_or, leb, filter, position}
use Rattle.std.specs.List.{fold, reduce}
use Rattle.std.proofs.Common.{ap, sym, subst, ◌∙◌, add-one, arith, inl, inr, lt-ltb, le-ltb, eq-eqb, ne_eqb}
use Rattle.std.proofs.lemmas.Bool.{leb-true, leb-false}
use Rattle.costs.specs.Table.{count_of}
use Rattle.costs.specs.declared.Step.{Step}
use Rattle.costs.specs.declared.Step.TheVariants.{Dup, Swap, PushImm, LoadVal}
use Rattle.replay.specs.Machine.{Rules, room, immediate}
use Rattle.replay.specs.Laws.{Ready}
use Rattle.star_swap.specs.Tests.{by_test}
use Rattle.builders.specs.Draft.{Draft, does}
use Rattle.builders.specs.Work.{length_after, acted}
use Rattle.builders.specs.Dup.{and_then, made, place_of, copied, added, added_times, filled}
use Rattle.builders.specs.TrimCode.{Fit, found_is, absent_is}

-- a plan that is being filled
pub record Room (p : Draft) : Type 0 where
  pub few : length p.steps ≤ 42 + 2 * length p.window

pub fit_room : (p : Draft) → Fit p → Room p
fit_room p f = record { few = omega (arith, f.few) }

-- a step that makes the window longer keeps the room, also after another
grown : (s : Step) (p r : Draft) → Room p → length_after s (length p.window) ≡ length p.window + 1 → r ≡ does s p → Room r
grown s p r f l e = let a = acted s p r e in record { few = omega (arith, a.0, a.1, f.few) }

-- a copy of the key at a place
module _ (dup sm d : ℕ) (p : Draft) (f : Room p) where
  pub copy_dup : (r : Draft) → d < dup → r ≡ does (Dup d) p → (Some r ≡ copied dup sm d p) × Room r
  unfolding copied
  copy_dup r h e = (rw (lt-ltb d dup h) (ap Some e), grown (Dup d) p r f refl e)

  pub copy_none : dup ≤ d → (dup ≡ 0) ⊎ ((dup ≡ 0 → ⊥) × (sm ≤ d)) → None ≡ copied dup sm d p
  unfolding copied
  copy_none h (inl z) = rw (le-ltb d dup h, eq-eqb dup 0 z)
  copy_none h (inr z) = rw (le-ltb d dup h, ne_eqb dup 0 z.0, le-ltb d sm z.1)

  pub copy_up : (s r : Draft) → dup ≤ d → (dup ≡ 0 → ⊥) → d < sm → s ≡ does (Swap d) p → r ≡ does (Dup 0) s → (Some r ≡ copied dup sm d p) × Room r
  unfolding copied
  copy_up s r h e g a b =
      let x = acted (Swap d) p s a in
      let y = acted (Dup 0) s r b in (
        rw (le-ltb d dup h, ne_eqb dup 0 e, lt-ltb d sm g) (ap Some (b ∙ ap (does (Dup 0)) a)),
        record { few = omega (arith, x.0, x.1, y.0, y.1, f.few) },
      )

made_size : (kinds : List ℕ) (k n : ℕ) → length_after (made kinds k) n ≡ n + 1
unfolding made
made_size kinds k n = by_test (λ (s : Step). length_after s n ≡ n + 1) (immediate kinds k) (PushImm k) (LoadVal k) (λ e. refl) (λ e. refl)

pub made_ready : (kinds : List ℕ) (k n : ℕ) → k < 64 → n < 21 → Ready (made kinds k) n
unfolding made
made_ready kinds k n h l = by_test (λ (s : Step). Ready s n) (immediate kinds k) (PushImm k) (LoadVal k) (λ e. (h, l)) (λ e. (h, l))

-- one key more
module _ (q : Rules) (k : ℕ) (p : Draft) where
  pub add_full : q.max_len ≤ length p.window → None ≡ added q k p
  unfolding added room
  add_full h = rw (le-ltb (length p.window) q.max_len h)

  module _ (h : length p.window < q.max_len) where
    pub add_made : (r : Draft) → Room p → None ≡ position (λ x. k == x) p.window → r ≡ does (made q.kinds k) p → (Some r ≡ added q k p) × Room r
    unfolding added room
    add_made r f n e =
        let m : place_of k p.window ≡ length p.window = absent_is (λ x. k == x) p.window n in
        (rw (lt-ltb (length p.window) q.max_len h, le-ltb (place_of k p.window) (length p.window) (omega (arith, m))) (ap Some e), grown (made q.kinds k) p r f (made_size q.kinds k (length p.window)) e)

    pub add_copy : (d : ℕ) (r : Option Draft) → Some d ≡ position (λ x. k == x) p.window → r ≡ copied q.dup_max q.swap_max d p → r ≡ added q k p
    unfolding added room
    add_copy d r n e =
        let m = found_is (λ x. k == x) p.window d n in
        rw (lt-ltb (length p.window) q.max_len h, ← m.0, lt-ltb d (length p.window) m.1) e

-- so many keys more
module _ (q : Rules) (k n : ℕ) where
  times_turn : (i : ℕ) (p : Draft) → i < n → added_times (n - i) q k p ≡ and_then (added q k p) (added_times (n - (i + 1)) q k)
  unfolding added_times
  times_turn i p h = let e : n - i ≡ suc (n - (i + 1)) = omega arith in rw e

  times_none : (i : ℕ) (p : Draft) → n ≤ i → added_times (n - i) q k p ≡ Some p
  unfolding added_times
  times_none i p h = let e : n - i ≡ 0 = omega arith in rw e

  pub record Adding (p₀ p : Draft) (i : ℕ) : Type 0 where
    pub room : Room p
    pub left : added_times (n - i) q k p ≡ added_times n q k p₀

  module _ (p₀ p : Draft) (i : ℕ) (v : Adding p₀ p i) where
    turned : (o : Option Draft) → i < n → o ≡ added q k p → and_then o (added_times (n - (i + 1)) q k) ≡ added_times n q k p₀
    turned o l a = ap (λ (x : Option Draft). and_then x (added_times (n - (i + 1)) q k)) a ∙ sym (times_turn i p l) ∙ v.left

    pub adding_next : (r : Draft) → i < n → Some r ≡ added q k p → Room r → Adding p₀ r (i + 1)
    adding_next r l a f = record { room = f; left = turned (Some r) l a }

    pub adding_none : i < n → None ≡ added q k p → None ≡ added_times n q k p₀
    adding_none l a = turned None l a

    pub adding_last : n ≤ i → Some p ≡ added_times n q k p₀
    adding_last l = sym (times_none i p l) ∙ v.left

-- the least key of the goal from a key on, if there is one
pub record Next (goal : List ℕ) (from m : ℕ) : Type 0 where
  pub low : from ≤ m
  pub high : m ≤ 64
  pub idle : (j : ℕ) → from ≤ j → j < m → count_of j goal ≡ 0

abbrev pub next_of : Option ℕ → ℕ
next_of (Some m) = m
next_of None = 64

-- the least of a first number and the keys of the goal from a key on
record Least (from x : ℕ) (goal : List ℕ) (m : ℕ) : Type 0 where
  low : from ≤ m
  high : m ≤ x
  idle : (j : ℕ) → from ≤ j → j < m → count_of j goal ≡ 0

least : (from x : ℕ) (goal : List ℕ) → from ≤ x → Least from x goal (fold min x (filter (λ k. leb from k) goal))
least from x [] h = record { low = h; high = omega arith; idle = λ j l g. refl }
least from x (y ∷ goal) h = go (leb from y) refl (λ z l. least from z goal l)
  where
    go : (b : Bool) → leb from y ≡ b → ((z : ℕ) → from ≤ z → Least from z goal (fold min z (filter (λ k. leb from k) goal))) →
        Least from x (y ∷ goal) (fold min x (cond b (y ∷ filter (λ k. leb from k) goal) (filter (λ k. leb from k) goal)))
    go true e rest =
        let l : from ≤ y = leb-true from y e in
        let r = rest (min x y) (omega arith) in
        record { low = r.low; high = omega (arith, r.high); idle = λ j a b. rw (ne_eqb y j (λ z. omega (arith, r.high))) (r.idle j a b) }
    go false e rest =
        let l : y < from = leb-false from y e in
        let r = rest x h in
        record { low = r.low; high = r.high; idle = λ j a b. rw (ne_eqb y j (λ z. omega arith)) (r.idle j a b) }

-- what the code finds: the least key that stands in the goal from a key on
pub record Finds (from : ℕ) (goal : List ℕ) (r : Option ℕ) : Type 0 where
  pub next : Next goal from (next_of r)
  pub key : IfSome r (λ m. m < 64)

finds : (from : ℕ) → from ≤ 64 → (goal : List ℕ) → ((i : ℕ) → i < length goal → get_or goal i 0 < 64) → Finds from goal (reduce min (filter (λ k. leb from k) goal))
finds from h [] keys = record { next = record { low = h; high = omega arith; idle = λ j l g. refl }; key = tt }
finds from h (y ∷ goal) keys = go (leb from y) refl (finds from h goal (λ i l. keys (suc i) (omega arith)))
  where
    go : (b : Bool) → leb from y ≡ b → Finds from goal (reduce min (filter (λ k. leb from k) goal)) → Finds from (y ∷ goal) (reduce min (cond b (y ∷ filter (λ k. leb from k) goal) (filter (λ k. leb from k) goal)))
    go true f rest =
        let l : from ≤ y = leb-true from y f in
        let y-low : y < 64 = keys 0 (omega arith) in
        let r = least from y goal l in
        record {
          next = record { low = r.low; high = omega (arith, r.high); idle = λ j a b. rw (ne_eqb y j (λ z. omega (arith, r.high))) (r.idle j a b) };
          key = omega (arith, r.high);
        }
    go false f rest =
        let l : y < from = leb-false from y f in
        record {
          next = record { low = rest.next.low; high = rest.next.high; idle = λ j a b. rw (ne_eqb y j (λ z. omega arith)) (rest.next.idle j a b) };
          key = rest.key;
        }

-- the keys below one are there, and the others decide
module _ (q : Rules) (goal : List ℕ) (p₀ : Draft) where
  pub record Filling (p : Draft) (k : ℕ) : Type 0 where
    pub room : Room p
    pub left : filled (64 - k) k q goal p ≡ filled 64 0 q goal p₀

  fill_turn : (k : ℕ) (p : Draft) → k < 64 → filled (64 - k) k q goal p ≡ and_then (added_times (count_of k goal - count_of k p.window) q k p) (filled (64 - (k + 1)) (k + 1) q goal)
  unfolding filled
  fill_turn k p l = let e : 64 - k ≡ suc (64 - (k + 1)) = omega arith in rw (e, add-one k)

  module _ (p : Draft) (k : ℕ) (v : Filling p k) (l : k < 64) (n : ℕ) (e : n ≡ count_of k goal - count_of k p.window) where
    filled_by : (o : Option Draft) → o ≡ added_times n q k p → and_then o (filled (64 - (k + 1)) (k + 1) q goal) ≡ filled 64 0 q goal p₀
    filled_by o a =
        ap (λ (x : Option Draft). and_then x (filled (64 - (k + 1)) (k + 1) q goal)) (a ∙ ap (λ (m : ℕ). added_times m q k p) e)
        ∙ sym (fill_turn k p l) ∙ v.left

    one : (r : Draft) → Some r ≡ added_times n q k p → Room r → Filling r (k + 1)
    one r a f = record { room = f; left = filled_by (Some r) a }

    pub filling_none : None ≡ added_times n q k p → None ≡ filled 64 0 q goal p₀
    filling_none a = filled_by None a

  -- keys that do not stand in the goal are passed over
  idle : (p : Draft) (k : ℕ) → Filling p k → k < 64 → count_of k goal ≡ 0 → Filling p (k + 1)
  unfolding added_times
  idle p k v l e = one p k v l 0 (omega (arith, e)) p refl v.room

  passed_by : (p : Draft) (k n : ℕ) → Filling p k → Next goal k (k + n) → Filling p (k + n)
  passed_by p k zero v u = subst (Filling p) {x = k} {y = k + 0} (omega arith) v
  passed_by p k (suc n) v u =
      subst (Filling p) {x = k + 1 + n} {y = k + suc n} (omega arith)
      (passed_by p (k + 1) n (idle p k v (omega (arith, u.high)) (u.idle k (omega arith) (omega arith)))
      (record { low = omega arith; high = omega (arith, u.high); idle = λ i h g. u.idle i (omega arith) (omega arith) }))

  passed : (p : Draft) (k m : ℕ) → Filling p k → Next goal k m → Filling p m
  passed p k m v u =
      let e : k + (m - k) ≡ m = omega (arith, u.low) in
      subst (Filling p) e (passed_by p k (m - k) v (subst (Next goal k) (sym e) u))

  -- where the loop stands: at the next key of the goal, or behind the last
  pub record Going (p : Draft) (r : Option ℕ) : Type 0 where
    pub low : IfSome r (λ k. k < 64)
    pub filling : Filling p (next_of r)

  -- at a key
  pub at_key : (p : Draft) (r : Option ℕ) (k : ℕ) → Going p r → r ≡ Some k → (k < 64) × Filling p k
  at_key p r k g e = let f : Going p (Some k) = subst (Going p) e g in (f.low, f.filling)

  -- behind the last
  pub at_end : (p : Draft) (r : Option ℕ) → Going p r → r ≡ None → Some p ≡ filled 64 0 q goal p₀
  unfolding filled
  at_end p r g e = let f : Going p None = subst (Going p) e g in f.filling.left

  module _ (keys : (i : ℕ) → i < length goal → get_or goal i 0 < 64) where
    pub going_first : (r : Option ℕ) → Room p₀ → r ≡ reduce min (filter (λ k. leb 0 k) goal) → Going p₀ r
    going_first r f e =
        let w : Finds 0 goal r = subst (Finds 0 goal) (sym e) (finds 0 (omega arith) goal keys) in
        record { low = w.key; filling = passed p₀ 0 (next_of r) (record { room = f; left = refl }) w.next }

    pub going_less : (k : ℕ) → k < 64 → (r : Option ℕ) → r ≡ reduce min (filter (λ j. leb (k + 1) j) goal) → 64 - next_of r < 64 - k
    going_less k l r g =
        let w : Finds (k + 1) goal r = subst (Finds (k + 1) goal) (sym g) (finds (k + 1) (omega arith) goal keys) in
        omega (arith, w.next.low)

    pub going_next : (p : Draft) (k : ℕ) → Filling p k → k < 64 → (n : ℕ) → n ≡ count_of k goal - count_of k p.window → (t : Draft) → Some t ≡ added_times n q k p → Room t →
        (r : Option ℕ) → r ≡ reduce min (filter (λ j. leb (k + 1) j) goal) → Going t r
    going_next p k v l n e t a f r g =
        let w : Finds (k + 1) goal r = subst (Finds (k + 1) goal) (sym g) (finds (k + 1) (omega arith) goal keys) in
        record { low = w.key; filling = passed t (k + 1) (next_of r) (one p k v l n e t a f) w.next }
