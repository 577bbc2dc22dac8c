-- What dup-and-star's first phase needs and gives: searches in the window, and the surplus keys that go.
use Rattle.std.specs.Prelude.{ℕ, zero, suc, ◌+◌, ◌-◌, ◌*◌, ◌<◌, ◌≤◌, Bool, true, false, not, List, [], ◌∷◌, ◌≡◌, refl, Option, None, Some, cond, length, get_or, ltb, position}
use Rattle.std.specs.List.{position_or_len}
use Rattle.std.proofs.lemmas.Grind.{get_or_default_zero}
use Rattle.std.proofs.Common.{ap, sym, subst, ◌∙◌, arith, lt-ltb, le-ltb, ltb-true, ltb-false, ne_eqb}
use borrow.Author.Tests.{not-true, not-false}
use Rattle.std.proofs.lemmas.List.Recursion.{is_position_or_len}
use Rattle.costs.specs.Choice.{◌if◌otherwise◌}
use Rattle.costs.specs.Table.{count_of}
use Rattle.costs.specs.declared.Step.TheVariants.{Pop, Swap}
use Rattle.window.specs.Keys.{keys_of, keys_length, Window as Packed}
use Rattle.window.specs.Laws.{key_lt}
use Rattle.window.specs.declared.PackedState.{PackedState}
use Rattle.star_swap.specs.Check.{Window, Counts}
use Rattle.builders.specs.Draft.{Draft, does}
use Rattle.builders.specs.Dup.{first_at, surplus, surplus_at, drop_at, within, trimmed}
use Rattle.builders.specs.TailLaws.{does_length}
use Rattle.builders.specs.Work.{does_size}

-- the keys of a packed window
pub packed_window : (s : PackedState) → Packed s → Window (keys_of s)
packed_window s h = record { short = keys_length s; keys = λ i l. key_lt 6 (keys_of s) i h.keys }

-- what a phase comes to
abbrev pub tried : Option (Unit {0}) → Draft → Option Draft
tried (Some x) p = Some p
tried None p = None

-- the first place is the library's position
first_is : (t : ℕ → Bool) (w : List ℕ) → first_at t w ≡ position_or_len t w
unfolding first_at
first_is t w = is_position_or_len (first_at t) t refl (λ x xs. chosen (t x) (first_at t xs)) w
  where
    chosen : (b : Bool) (n : ℕ) → (0 if b otherwise suc n) ≡ cond b 0 (1 + n)
    chosen true n = refl
    chosen false n = omega arith

pub first_at_low : (t : ℕ → Bool) (w : List ℕ) → first_at t w ≤ length w
unfolding first_at
first_at_low t [] = omega arith
first_at_low t (x ∷ w) = go (t x) (first_at_low t w)
  where
    go : (b : Bool) → first_at t w ≤ length w → (0 if b otherwise suc (first_at t w)) ≤ suc (length w)
    go true h = omega arith
    go false h = omega arith

-- a key that is found, and none
module _ (t : ℕ → Bool) (w : List ℕ) where
  placed : (b : Bool) → ltb (position_or_len t w) (length w) ≡ b → (d : ℕ) → cond b (Some (position_or_len t w)) None ≡ Some d → (d ≡ first_at t w) × (d < length w)
  placed true e d f = let x : position_or_len t w ≡ d = cc in (sym x ∙ sym (first_is t w), omega (arith, ltb-true _ _ e))
  placed false e d f = absurd cc

  pub found_is : (d : ℕ) → Some d ≡ position t w → (d ≡ first_at t w) × (d < length w)
  found_is d e = placed (ltb (position_or_len t w) (length w)) refl d (sym e)

  absent : (b : Bool) → ltb (position_or_len t w) (length w) ≡ b → cond b (Some (position_or_len t w)) None ≡ None → first_at t w ≡ length w
  absent true e f = absurd cc
  absent false e f = omega (arith, first_is t w, first_at_low t w, ltb-false _ _ e)

  pub absent_is : None ≡ position t w → first_at t w ≡ length w
  absent_is e = absent (ltb (position_or_len t w) (length w)) refl (sym e)

-- a test matters only on the keys that stand in the window
pub first_at_same : (t u : ℕ → Bool) (w : List ℕ) → ((i : ℕ) → i < length w → t (get_or w i 0) ≡ u (get_or w i 0)) → first_at t w ≡ first_at u w
unfolding first_at
first_at_same t u [] h = refl
first_at_same t u (x ∷ w) h = rw (h 0 (omega arith), first_at_same t u w (λ i l. h (suc i) (omega arith)))

same_position : (t u : ℕ → Bool) (w : List ℕ) → ((i : ℕ) → i < length w → t (get_or w i 0) ≡ u (get_or w i 0)) → position t w ≡ position u w
same_position t u w h =
    let e : position_or_len t w ≡ position_or_len u w = sym (first_is t w) ∙ first_at_same t u w h ∙ first_is u w in
    rw e

-- more of a key than an array of counts has
abbrev pub more_than : List ℕ → List ℕ → ℕ → Bool
more_than a w k = ltb (get_or a k 0) (count_of k w)

surplus_by : (goal a w : List ℕ) → Window w → Counts goal a → first_at (more_than a w) w ≡ surplus_at goal w
surplus_by goal a w s c = first_at_same (more_than a w) (surplus goal w) w (λ i l. ap (λ (n : ℕ). ltb n (count_of (get_or w i 0) w)) (c.each (get_or w i 0) (s.keys i l)))

-- a key as it is read
pub item_low : (w l : List ℕ) (x k : ℕ) → Window w → l ≡ w → k < length l → x ≡ get_or l k x → x < 64
item_low w l x k s e h f =
    let m : k < length w = subst (λ (v : List ℕ). k < length v) e h in
    omega (arith, f, get_or_default_zero l k x h, ap (λ (v : List ℕ). get_or v k 0) e, s.keys k m)

-- two arrays of counts tell the same
pub seen : (a b w l : List ℕ) (r : Option ℕ) → Window w → Counts l b → l ≡ w → r ≡ position (λ k. ltb (get_or a k 0) (get_or b k 0)) l → r ≡ position (more_than a w) w
seen a b w l r s d f e = shown (subst (λ (v : List ℕ). Counts v b) f d) (subst (λ (v : List ℕ). r ≡ position (λ k. ltb (get_or a k 0) (get_or b k 0)) v) f e)
  where
    shown : Counts w b → r ≡ position (λ k. ltb (get_or a k 0) (get_or b k 0)) w → r ≡ position (more_than a w) w
    shown c e = e ∙ same_position (λ k. ltb (get_or a k 0) (get_or b k 0)) (more_than a w) w (λ i l. ap (ltb (get_or a (get_or w i 0) 0)) (c.each (get_or w i 0) (s.keys i l)))

-- a plan that is being trimmed
pub record Fit (p : Draft) : Type 0 where
  pub few : length p.steps + 2 * length p.window ≤ 42

module _ (p : Draft) (d : ℕ) (f : Fit p) (l : d < length p.window) where
  pub drop_top : (r : Draft) → d ≡ 0 → r ≡ does Pop p → r ≡ drop_at d p
  unfolding drop_at
  drop_top r e a = rw e a

  pub drop_deep : (s r : Draft) → 0 < d → s ≡ does (Swap d) p → r ≡ does Pop s → r ≡ drop_at d p
  unfolding drop_at
  drop_deep s r e a b = rw (ne_eqb d 0 (λ z. omega arith)) (b ∙ ap (does Pop) a)

-- a key is gone after at most two steps
dropped : (p : Draft) (d : ℕ) → d < length p.window → (length (drop_at d p).window + 1 ≡ length p.window) × (length (drop_at d p).steps ≤ length p.steps + 2)
unfolding drop_at
dropped p zero l = (omega (arith, does_size Pop p), omega (arith, does_length Pop p))
dropped p (suc d) l =
    let q : Draft = does (Swap (suc d)) p in
    rw (ne_eqb (suc d) 0 (λ z. omega arith))
    ((omega (arith, does_size Pop q, does_size (Swap (suc d)) p), omega (arith, does_length Pop q, does_length (Swap (suc d)) p)))

-- the surplus keys that are gone so far, and what is left decides
pub record Trimming (goal : List ℕ) (sm : ℕ) (p₀ p : Draft) : Type 0 where
  pub fit : Fit p
  pub left : trimmed (length p.window) sm goal p ≡ trimmed (length p₀.window) sm goal p₀

module _ (goal : List ℕ) (sm : ℕ) (p₀ p : Draft) (t : Trimming goal sm p₀ p) (a : List ℕ) (w : Window p.window) (c : Counts goal a) where
  place : first_at (more_than a p.window) p.window ≡ surplus_at goal p.window
  place = surplus_by goal a p.window w c

  module _ (d : ℕ) (e : Some d ≡ position (more_than a p.window) p.window) where
    at_place : d ≡ surplus_at goal p.window
    at_place = (found_is (more_than a p.window) p.window d e).0 ∙ place

    pub trim_low : d < length p.window
    trim_low = (found_is (more_than a p.window) p.window d e).1

    turn : (n : ℕ) → n ≡ length p.window → trimmed n sm goal p ≡ (trimmed (n - 1) sm goal (drop_at d p) if within sm d otherwise None)
    unfolding trimmed
    turn zero m = absurd (omega (arith, trim_low))
    turn (suc n) m =
        let k : length p.window ≡ suc n = sym m in
        let l : d < suc n = omega (arith, trim_low) in
        let z : suc n - 1 ≡ n = omega arith in
        rw (← at_place, k, lt-ltb d (suc n) l, z)

    pub trim_far : (far : Bool) → far ≡ not (within sm d) → far ≡ true → None ≡ trimmed (length p₀.window) sm goal p₀
    trim_far far g f =
        let h : within sm d ≡ false = not-true (within sm d) (sym g ∙ f) in
        sym (sym t.left ∙ turn (length p.window) refl ∙ rw h)

    pub trim_next : (far : Bool) (r : Draft) → far ≡ not (within sm d) → far ≡ false → r ≡ drop_at d p → Trimming goal sm p₀ r
    trim_next far r g f b =
        let h : within sm d ≡ true = not-false (within sm d) (sym g ∙ f) in
        let z = dropped p d trim_low in
        let n : length p.window - 1 ≡ length r.window = omega (arith, ap (λ (x : Draft). length x.window) b, z.0) in
        record {
          fit = record { few = omega (arith, ap (λ (x : Draft). length x.window) b, ap (λ (x : Draft). length x.steps) b, z.0, z.1, t.fit.few) };
          left = rw (b, ← ap (λ (x : Draft). length x.window) b, ← n) (sym (turn (length p.window) refl ∙ rw h) ∙ t.left);
        }

    pub trim_less : (r : Draft) → r ≡ drop_at d p → length r.window < length p.window
    trim_less r b = omega (arith, ap (λ (x : Draft). length x.window) b, (dropped p d trim_low).0)

  pub trim_last : None ≡ position (more_than a p.window) p.window → Some p ≡ trimmed (length p₀.window) sm goal p₀
  unfolding trimmed
  trim_last e = sym (sym t.left ∙ stop (length p.window) refl)
    where
      stop : (n : ℕ) → n ≡ length p.window → trimmed n sm goal p ≡ Some p
      stop zero m = refl
      stop (suc n) m =
          let k : length p.window ≡ suc n = sym m in
          let l : surplus_at goal p.window ≡ length p.window = sym place ∙ absent_is (more_than a p.window) p.window e in
          rw (le-ltb (surplus_at goal p.window) (length p.window) (omega (arith, l)))
