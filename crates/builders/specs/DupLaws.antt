-- Dup-and-star's plan replays from the start to the goal, within 114 steps.
use Prim.Native.Nat.{ℕ, zero, suc, ◌+◌, ◌-◌, ◌*◌, ◌<◌, ◌≤◌}
use Rattle.std.proofs.Math.Bool.{true}
use Rattle.std.specs.Prelude.{false, not, ◌&&◌, List, ◌≡◌, eqb}
use Rattle.std.specs.Prelude.{Option, None, Some}
use Rattle.std.proofs.Math.Path.{refl}
use native.Mathlib.Omega.{arith}
use borrow.Author.Tests.{ltb-true, ltb-false, eqb-false, not-true, lt-ltb}
use Rattle.std.proofs.Math.ListN.{length, length-append, length-map}
use Rattle.std.proofs.Math.Dec.{ltb}
use Rattle.costs.specs.Laws.{OperandFits, kinds_length}
use Rattle.costs.specs.Table.{kinds_fault, count_of}
use Rattle.costs.specs.declared.Step.{Step}
use Rattle.costs.specs.declared.Step.TheVariants.{Pop, Dup, Swap, PushImm, LoadVal}
use Rattle.replay.specs.Machine.{Rules, room, immediate, allows, ran_on, ends}
use Rattle.replay.specs.Laws.{and_left, and_right, room_below}
use Rattle.star_swap.specs.Star.{star_swaps, codes, code}
use Rattle.star_swap.specs.StarCode.{Pair}
use Rattle.star_swap.specs.StarLoop.{star_few}
use Rattle.star_swap.specs.Routes.{Routed}
use Rattle.builders.specs.Draft.{Draft, fresh, does, routed}
use Rattle.star_swap.specs.Ran.{swap_allowed}
use Rattle.star_swap.specs.Refusal.{unroutable}
use Rattle.star_swap.specs.Routable.{Small, small_at, routable_routed, routed_pair}
use Rattle.star_swap.specs.Tests.{or_second, by_test}
use Rattle.builders.specs.DraftLaws.{Reached, reached_fresh, reached_does, pop_allowed, reached_routed}
use Rattle.builders.specs.TailLaws.{does_length, swap_pop_lem}
use Rattle.builders.specs.Small.{Tame, after_small}
use Rattle.builders.specs.Tests.{kind_value}
use Rattle.builders.specs.Work.{length_after, does_size}
use Rattle.builders.specs.Dup.{and_then, surplus_at, drop_at, within, trimmed, made, place_of, copied, added, added_times, filled, finished, dup_and_star}

-- a property of what comes of a builder, if anything does
abbrev pub If : (Draft → Type 0) → Option Draft → Type 0
If P None = Unit {0}
If P (Some p) = P p

pub if_then : (P Q : Draft → Type 0) (o : Option Draft) (f : Draft → Option Draft) → If P o → ((p : Draft) → P p → If Q (f p)) → If Q (and_then o f)
if_then P Q None f h k = tt
if_then P Q (Some p) f h k = k p h

pub does_small : (s : Step) (p : Draft) → Tame s p.window → Small p.window → Small (does s p).window
unfolding does
does_small s p t h = after_small s p.window t h

-- the steps lead to the window, which is no longer than the machine allows, and they are few for what the window lost or won
pub record Trim (q : Rules) (start : List ℕ) (p : Draft) : Type 0 where
  pub reached : Reached q start p
  pub few : length p.steps + 2 * length p.window ≤ 2 * length start
  pub short : length p.window ≤ length start
  pub small : Small p.window

pub record Fill (q : Rules) (start : List ℕ) (p : Draft) : Type 0 where
  pub reached : Reached q start p
  pub few : length p.steps ≤ 2 * length start + 2 * length p.window
  pub short : length p.window ≤ 21
  pub small : Small p.window

-- a plan: its steps lead from the start to the goal, and there are at most 114
pub record Plan (q : Rules) (start goal : List ℕ) (p : Draft) : Type 0 where
  pub replays : ran_on q 0 p.steps start ≡ ends goal
  pub few : length p.steps ≤ 114

module _ (q : Rules) (start goal : List ℕ) (len : length start ≤ 21) where
  dropped : (d : ℕ) (p : Draft) → d < length p.window → within q.swap_max d ≡ true → Trim q start p → Trim q start (drop_at d p)
  unfolding within drop_at
  dropped d p h e t =
      by_test (Trim q start) (eqb d 0) _ _
      (λ z. record {
        reached = reached_does q start Pop p t.reached tt (pop_allowed q _ (omega arith));
        few = omega (arith, t.few, does_length Pop p, does_size Pop p);
        short = omega (arith, t.short, does_size Pop p);
        small = does_small Pop p tt t.small;
      })
      (λ z.
      let n : d ≡ 0 → ⊥ = eqb-false d 0 z in
      let b : ltb d q.swap_max ≡ true = or_second (eqb d 0) (ltb d q.swap_max) z e in
      let g = swap_pop_lem q start d p t.reached (omega arith) (ltb-true _ _ b) h (omega (arith, t.short)) in
      record {
        reached = g.reached;
        few = omega (arith, t.few, g.steps, does_size Pop (does (Swap d) p), does_size (Swap d) p);
        short = omega (arith, t.short, does_size Pop (does (Swap d) p), does_size (Swap d) p);
        small = does_small Pop (does (Swap d) p) tt (does_small (Swap d) p (omega arith, h) t.small);
      })

  pub trimmed_goes : (n : ℕ) (p : Draft) → Trim q start p → If (Trim q start) (trimmed n q.swap_max goal p)
  unfolding trimmed
  trimmed_goes zero p t = t
  trimmed_goes (suc n) p t =
      by_test (If (Trim q start)) (ltb (surplus_at goal p.window) (length p.window)) _ _
      (λ a.
      by_test (If (Trim q start)) (within q.swap_max (surplus_at goal p.window)) _ _
      (λ b. trimmed_goes n (drop_at (surplus_at goal p.window) p) (dropped (surplus_at goal p.window) p (ltb-true _ _ a) b t))
      (λ b. tt))
      (λ a. t)

  -- a step that makes the window longer by one key, after at most one other
  pub grows : (s : Step) (p : Draft) → Fill q start p → OperandFits s → allows q s (length p.window) ≡ true → length p.window < 21 → length_after s (length p.window) ≡ length p.window + 1 → Tame s p.window → Fill q start (does s p)
  grows s p t f h l e k =
      record {
        reached = reached_does q start s p t.reached f h;
        few = omega (arith, t.few, does_length s p, does_size s p);
        short = omega (arith, does_size s p);
        small = does_small s p k t.small;
      }

  module _ (m : q.max_len ≤ 21) (kinds : kinds_fault q.kinds ≡ false) where
    dup_allowed : (d n : ℕ) → d < q.dup_max → d < n → room q.max_len n ≡ true → allows q (Dup d) n ≡ true
    unfolding allows
    dup_allowed d n a b c = rw (lt-ltb _ _ a, lt-ltb _ _ b, c)

    made_goes : (k : ℕ) (p : Draft) → k < 64 → Fill q start p → room q.max_len (length p.window) ≡ true → Fill q start (does (made q.kinds k) p)
    unfolding made
    made_goes k p l t r =
        by_test (λ (s : Step). Fill q start (does s p)) (immediate q.kinds k) (PushImm k) (LoadVal k)
        (λ e. grows (PushImm k) p t (omega arith) (unfold allows in (rw (e, r))) (omega (arith, room_below _ _ r)) refl l)
        (λ e. grows (LoadVal k) p t (omega arith) (unfold allows in (rw (kind_value q.kinds k kinds (kinds_length q.kinds kinds) l e, r))) (omega (arith, room_below _ _ r)) refl l)

    copied_goes : (d : ℕ) (p : Draft) → d < length p.window → Fill q start p → room q.max_len (length p.window) ≡ true → If (Fill q start) (copied q.dup_max q.swap_max d p)
    unfolding copied
    copied_goes d p l t r =
        by_test (If (Fill q start)) (ltb d q.dup_max) _ _
        (λ e. grows (Dup d) p t (omega (arith, t.short)) (dup_allowed d _ (ltb-true _ _ e) l r) (omega (arith, room_below _ _ r)) refl l)
        (λ e.
        by_test (If (Fill q start)) (not (eqb q.dup_max 0) && ltb d q.swap_max) _ _
        (λ f.
        let a : q.dup_max ≡ 0 → ⊥ = eqb-false _ _ (not-true _ (and_left (not (eqb q.dup_max 0)) (ltb d q.swap_max) f)) in
        let b : d < q.swap_max = ltb-true _ _ (and_right (not (eqb q.dup_max 0)) (ltb d q.swap_max) f) in
        let c : q.dup_max ≤ d = ltb-false _ _ e in
        swapped_up d p l t r (omega arith) b (omega arith))
        (λ f. tt))
      where
        swapped_up : (d : ℕ) (p : Draft) → d < length p.window → Fill q start p → room q.max_len (length p.window) ≡ true → 0 < d → d < q.swap_max → 0 < q.dup_max → Fill q start (does (Dup 0) (does (Swap d) p))
        swapped_up d p l t r z b a =
            let n : length (does (Swap d) p).window ≡ length p.window = does_size (Swap d) p in
            let r₁ : Reached q start (does (Swap d) p) = reached_does q start (Swap d) p t.reached (omega (arith, t.short)) (swap_allowed q d _ z b l) in
            record {
              reached = reached_does q start (Dup 0) (does (Swap d) p) r₁ (omega arith) (dup_allowed 0 _ a (omega arith) (rw n r));
              few = omega (arith, t.few, does_length (Dup 0) (does (Swap d) p), does_length (Swap d) p, does_size (Dup 0) (does (Swap d) p));
              short = omega (arith, room_below _ _ r, does_size (Dup 0) (does (Swap d) p));
              small = does_small (Dup 0) (does (Swap d) p) (omega arith) (does_small (Swap d) p (z, l) t.small);
            }

    pub added_goes : (k : ℕ) (p : Draft) → k < 64 → Fill q start p → If (Fill q start) (added q k p)
    unfolding added
    added_goes k p l t =
        by_test (If (Fill q start)) (room q.max_len (length p.window)) _ _
        (λ r.
        by_test (If (Fill q start)) (ltb (place_of k p.window) (length p.window)) _ _
        (λ e. copied_goes (place_of k p.window) p (ltb-true _ _ e) t r)
        (λ e. made_goes k p l t r))
        (λ r. tt)

    pub times_goes : (n k : ℕ) (p : Draft) → k < 64 → Fill q start p → If (Fill q start) (added_times n q k p)
    unfolding added_times
    times_goes zero k p l t = t
    times_goes (suc n) k p l t = if_then (Fill q start) (Fill q start) (added q k p) (added_times n q k) (added_goes k p l t) (λ r u. times_goes n k r l u)

    pub filled_goes : (n k : ℕ) (p : Draft) → k + n ≤ 64 → Fill q start p → If (Fill q start) (filled n k q goal p)
    unfolding filled
    filled_goes zero k p l t = t
    filled_goes (suc n) k p l t =
        if_then (Fill q start) (Fill q start) (added_times (count_of k goal - count_of k p.window) q k p) (filled n (suc k) q goal)
        (times_goes (count_of k goal - count_of k p.window) k p (omega arith) t)
        (λ r u. filled_goes n (suc k) r (omega arith) u)

    -- between the two phases
    pub trim_fill : (p : Draft) → Trim q start p → Fill q start p
    trim_fill p t = record { reached = t.reached; few = omega (arith, t.few); short = omega (arith, t.short); small = t.small }

    module _ (keys : Small goal) where
      few_of : (p : Draft) → Fill q start p → Pair p.window goal → length (routed goal p).steps ≤ 114
      unfolding routed
      few_of p t b =
          omega (
            arith,
            t.few,
            t.short,
            star_few p.window goal b,
            length-append p.steps (codes (star_swaps p.window goal)),
            length-map (star_swaps p.window goal) code,
          )

      pub finished_goes : (p : Draft) → Fill q start p → If (Plan q start goal) (finished q.swap_max goal p)
      unfolding finished
      finished_goes p t =
          by_test (If (Plan q start goal)) (unroutable q.swap_max p.window goal) _ _ (λ e. tt)
          (λ e.
          let r : Routed q.swap_max p.window goal = routable_routed q.swap_max p.window goal t.small keys e in
          let k = small_at goal keys in
          record {
            replays = reached_routed q start goal p (omega (arith, r.same_length, t.short)) k r t.reached;
            few = few_of p t (routed_pair q.swap_max p.window goal t.short t.small keys r);
          })

      -- what dup-and-star gives, if anything, leads from the start to the goal
      pub dup_and_star_goes : Small start → If (Plan q start goal) (dup_and_star q start goal)
      unfolding dup_and_star
      dup_and_star_goes s =
          if_then (Trim q start) (Plan q start goal) (trimmed (length start) q.swap_max goal (fresh start)) (λ p. and_then (filled 64 0 q goal p) (finished q.swap_max goal))
          (trimmed_goes (length start) (fresh start) (record { reached = reached_fresh q start; few = omega arith; short = omega arith; small = s }))
          (λ p t. if_then (Fill q start) (Plan q start goal) (filled 64 0 q goal p) (finished q.swap_max goal) (filled_goes 64 0 p (omega arith) (trim_fill p t)) finished_goes)
