-- What the checks of the star-swap call go by: the windows that pass them, counts of keys, and the loops over counts and places.
use Rattle.std.specs.Prelude.{◌≡◌, refl, Bool, ◌||◌, List, ℕ, ◌+◌, ◌-◌, ◌≤◌, ◌<◌, eqb, length, take, drop, min, replicate}
use Rattle.std.proofs.Common.{sym, ap, ◌∙◌, arith, take_all, length-drop}
use Rattle.std.proofs.Math.Bool.{true, false}
use borrow.Author.Tests.{ltb-false, le-ltb}
use Rattle.std.proofs.Math.Dec.{ltb}
use Rattle.std.specs.Bool.{Decides}
use Rattle.std.specs.Cmp.Lexicographic.{pointwise}
use Rattle.std.proofs.lemmas.Bool.Decides.{same_from_decides, Decides-like, Decides-eqb, Decides-below_and}
use Rattle.std.proofs.lemmas.Slice.Eq.{slice_eq-Decides, compares_Decides}
use Rattle.std.proofs.lemmas.List.{get_or-replicate, ext_get_or, drop_min}
use Rattle.costs.specs.Choice.{◌if◌otherwise◌}
use Rattle.costs.specs.Refusal.{number_of, never_zero}
use Rattle.costs.specs.declared.Refusal.{Refusal}
use Rattle.costs.specs.Laws.{passed, or_left}
use Rattle.costs.specs.Table.{any_over, count_of}
use Rattle.star_swap.specs.Star.{at}
use Rattle.star_swap.specs.Tests.{or_right, over_none}
use Rattle.star_swap.specs.Refusal.{same_counts, are_keys_same, builder_refusal}

-- a window: at most 21 keys, each below 64
pub record Window (w : List ℕ) : Type 0 where
  pub short : length w ≤ 21
  pub keys : (i : ℕ) → i < length w → at w i < 64

-- an array of counts
pub record Counts (w a : List ℕ) : Type 0 where
  pub len : length a ≡ 64
  pub each : (k : ℕ) → k < 64 → at a k ≡ count_of k w

-- the first i keys are counted
pub record Counting (w a : List ℕ) (i : ℕ) : Type 0 where
  pub low : i ≤ length w
  pub len : length a ≡ 64
  pub few : (k : ℕ) → k < 64 → at a k ≤ i
  pub left : (k : ℕ) → k < 64 → count_of k w ≡ at a k + count_of k (drop i w)

module _ (w : List ℕ) where
  pub counting_first : Counting w (replicate 64 0) 0
  counting_first =
      record {
        low = omega arith;
        len = refl;
        few = λ k h. omega (arith, get_or-replicate {A = ℕ} 64 k 0 0 h);
        left = λ k h. omega (arith, get_or-replicate {A = ℕ} 64 k 0 0 h);
      }

-- equal arrays of counts are equal counts
pub equal_counts : (a b x y : List ℕ) → Counts a x → Counts b y → (r : Bool) → r ≡ pointwise eqb x y → r ≡ same_counts 64 a b
equal_counts a b x y c d r e =
    let same : Decides (same_counts 64 a b) ((k : ℕ) → k < 64 → count_of k a ≡ count_of k b) =
    Decides-below_and (λ k. eqb (count_of k a) (count_of k b)) (λ k. count_of k a ≡ count_of k b) (λ n. same_counts n a b) (λ k. Decides-eqb (count_of k a) (count_of k b)) refl (λ _. refl) 64 in
    same_from_decides r (same_counts 64 a b)
    (Decides-like r (λ f k l. sym (c.each k l) ∙ ap (λ (z : List ℕ). at z k) f ∙ d.each k l)
    (λ f. ext_get_or 0 x y (c.len ∙ sym d.len) (λ k l. c.each k (omega (arith, c.len)) ∙ f k (omega (arith, c.len)) ∙ sym (d.each k (omega (arith, c.len)))))
    (slice_eq-Decides Decides-eqb x y r e))
    same

-- the keys from a place on, by the slices from there
pub same_after : (a b : List ℕ) (from n : ℕ) (r : Bool) → length a ≡ length b → n ≡ min from (length a) → r ≡ pointwise eqb (take (length a - n) (drop n a)) (take (length b - n) (drop n b)) → r ≡ are_keys_same (drop from a) (drop from b)
same_after a b from n r e f g =
    let x : take (length a - n) (drop n a) ≡ drop from a = take_all _ (drop n a) (omega (arith, length-drop n a)) ∙ ap (λ (m : ℕ). drop m a) f ∙ drop_min from a in
    let y : take (length b - n) (drop n b) ≡ drop from b = take_all _ (drop n b) (omega (arith, length-drop n b)) ∙ ap (λ (m : ℕ). drop m b) (f ∙ ap (min from) e) ∙ drop_min from b in
    same_from_decides r (are_keys_same (drop from a) (drop from b))
    (slice_eq-Decides Decides-eqb (drop from a) (drop from b) r (g ∙ rw (x, y)))
    (compares_Decides are_keys_same (record { empty = refl; shorter = λ y ys. refl; longer = λ x xs. refl; heads = λ x y xs ys. refl }) (drop from a) (drop from b))

-- what a question may rest on to which no shared row applies
pub record Taken (sm : ℕ) (start goal : List ℕ) (places : ℕ) : Type 0 where
  pub reach : sm ≤ 17
  pub start_keys : any_over 63 start ≡ false
  pub goal_keys : any_over 63 goal ≡ false
  pub start_short : length start ≤ 21
  pub goal_short : length goal ≤ 21
  pub room : 128 ≤ places

module _ (sm : ℕ) (start goal : List ℕ) (places higher : ℕ) where
  pub taken : builder_refusal sm start goal places higher ≡ 0 → Taken sm start goal places × (higher ≡ 0)
  unfolding builder_refusal
  taken h =
      let one = passed 0 (ltb 17 sm) _ h in
      let five = passed 4 (any_over 63 start || any_over 63 goal) _ one.1 in
      let six = passed 5 (ltb 21 (length start) || ltb 21 (length goal)) _ five.1 in
      let seven = passed 6 (ltb places 128) higher six.1 in (
        record {
          reach = ltb-false _ _ one.0;
          start_keys = or_left (any_over 63 start) (any_over 63 goal) five.0;
          goal_keys = or_right (any_over 63 start) (any_over 63 goal) five.0;
          start_short = ltb-false _ _ (or_left (ltb 21 (length start)) (ltb 21 (length goal)) six.0);
          goal_short = ltb-false _ _ (or_right (ltb 21 (length start)) (ltb 21 (length goal)) six.0);
          room = ltb-false _ _ seven.0;
        },
        seven.1,
      )

  pub taken_refusal : Taken sm start goal places → builder_refusal sm start goal places higher ≡ higher
  unfolding builder_refusal
  taken_refusal t = rw (le-ltb 17 sm t.reach, t.start_keys, t.goal_keys, le-ltb 21 (length start) t.start_short, le-ltb 21 (length goal) t.goal_short, le-ltb places 128 t.room)

  -- a number over 7 is that of a higher row
  pub higher_row : (n : ℕ) → builder_refusal sm start goal places higher ≡ 8 + n → higher ≡ 8 + n
  unfolding builder_refusal
  higher_row n h = go (ltb 17 sm) (any_over 63 start || any_over 63 goal) (ltb 21 (length start) || ltb 21 (length goal)) (ltb places 128) h
    where
      go : (a b c d : Bool) → (1 if a otherwise 5 if b otherwise 6 if c otherwise 7 if d otherwise higher) ≡ 8 + n → higher ≡ 8 + n
      go true b c d h = absurd (omega arith)
      go false true c d h = absurd (omega arith)
      go false false true d h = absurd (omega arith)
      go false false false true h = absurd (omega arith)
      go false false false false h = h

-- star-swap's table by the number that its shared rows give alone
module _ (sm : ℕ) (start goal : List ℕ) (places : ℕ) where
  -- the number of a shared row stands above a row of a higher number
  pub shared_row : (r : Refusal) (higher : ℕ) → number_of r ≡ builder_refusal sm start goal places 0 → number_of r ≡ builder_refusal sm start goal places higher
  unfolding builder_refusal
  shared_row r higher e = go (ltb 17 sm) (any_over 63 start || any_over 63 goal) (ltb 21 (length start) || ltb 21 (length goal)) (ltb places 128) e
    where
      go : (a b c d : Bool) → number_of r ≡ (1 if a otherwise 5 if b otherwise 6 if c otherwise 7 if d otherwise 0) →
          number_of r ≡ (1 if a otherwise 5 if b otherwise 6 if c otherwise 7 if d otherwise higher)
      go true b c d f = f
      go false true c d f = f
      go false false true d f = f
      go false false false true f = f
      go false false false false f = absurd (never_zero r f)

  -- where no shared row applies the higher row decides
  pub last_row : (higher : ℕ) → 0 ≡ builder_refusal sm start goal places 0 → higher ≡ builder_refusal sm start goal places higher
  last_row higher e = sym (taken_refusal sm start goal places higher (taken sm start goal places 0 (sym e)).0)

pub start_window : (sm : ℕ) (start goal : List ℕ) (places : ℕ) → Taken sm start goal places → Window start
start_window sm start goal places t = record { short = t.start_short; keys = λ i l. omega (arith, over_none 63 start t.start_keys i l) }

pub goal_window : (sm : ℕ) (start goal : List ℕ) (places : ℕ) → Taken sm start goal places → Window goal
goal_window sm start goal places t = record { short = t.goal_short; keys = λ i l. omega (arith, over_none 63 goal t.goal_keys i l) }
