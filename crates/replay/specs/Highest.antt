-- Laws of the highest window: what it is by the run alone, and how lengths alone give it.
use Rattle.std.specs.Prelude.{ℕ, zero, suc, ◌+◌, ◌<◌, ◌≤◌, max, Bool, true, false, List, [], ◌∷◌, ◌≡◌, refl, length, get_or, take, drop, ltb}
use Rattle.std.specs.Prelude.{Option, None, Some}
use Rattle.costs.specs.Laws.{some_injective}
use Rattle.std.proofs.Common.{ap, sym, ◌∙◌, subst, arith, ltb-true, ltb-false, drop_of_length-le}
use Rattle.costs.specs.Choice.{◌if◌otherwise◌}
use Rattle.costs.specs.Laws.{drop_turn}
use Rattle.costs.specs.Step.{decoded}
use Rattle.costs.specs.declared.Step.{Step}
use Rattle.replay.specs.Machine.{Rules, allows, after, step_on, onward, ran_on, ends, onto, passes, tallest, highest}
use Rattle.replay.specs.Beneath.{narrowed, too_tall, tall_sum, narrowed_stands}
use Rattle.replay.specs.Laws.{after_fits}
use Rattle.replay.specs.Steps.{length_after, length_after_lem}

-- ---- by what comes of the first step

-- no steps: the start's length
pub highest_none : (q : Rules) (w : List ℕ) → highest q [] w ≡ length w
unfolding highest passes
highest_none q w = omega arith

-- a first step that is not allowed: the same
pub highest_stops : (q : Rules) (c : ℕ) (cs w : List ℕ) → step_on q (decoded c) w ≡ None → highest q (c ∷ cs) w ≡ length w
unfolding highest passes
highest_stops q c cs w e = rw e (omega arith)

-- else the larger of that and of what the others reach
pub highest_goes : (q : Rules) (c : ℕ) (cs w v : List ℕ) → step_on q (decoded c) w ≡ Some v → highest q (c ∷ cs) w ≡ max (length w) (highest q cs v)
unfolding highest passes
highest_goes q c cs w v e = rw e

-- the start is not higher
pub highest_start : (q : Rules) (l w : List ℕ) → length w ≤ highest q l w
unfolding highest passes
highest_start q [] w = omega arith
highest_start q (c ∷ cs) w = omega arith

-- one turn of a walk over the codes
pub highest_turn_stops : (q : Rules) (l : List ℕ) (i : ℕ) (w : List ℕ) → i < length l → step_on q (decoded (get_or l i 0)) w ≡ None → highest q (drop i l) w ≡ length w
highest_turn_stops q l i w h e = rw (drop_turn l i h) (highest_stops q (get_or l i 0) (drop (i + 1) l) w e)

pub highest_turn_goes : (q : Rules) (l : List ℕ) (i : ℕ) (w v : List ℕ) → i < length l → step_on q (decoded (get_or l i 0)) w ≡ Some v → highest q (drop i l) w ≡ max (length w) (highest q (drop (i + 1) l) v)
highest_turn_goes q l i w v h e = rw (drop_turn l i h) (highest_goes q (get_or l i 0) (drop (i + 1) l) w v e)

pub highest_ends : (q : Rules) (l : List ℕ) (i : ℕ) (w : List ℕ) → length l ≤ i → highest q (drop i l) w ≡ length w
highest_ends q l i w h = rw (drop_of_length-le l h) (highest_none q w)

-- ---- the same over lengths, for the walk

-- one step on a window of n keys: the length after it, or none where it is not allowed
abbrev pub climb_on : Rules → Option Step → ℕ → Option ℕ
climb_on q (Some s) n = Some (length_after s n) if allows q s n otherwise None
climb_on q None n = None

-- the length of the window after a step, where there is one
abbrev length_of : Option (List ℕ) → Option ℕ
length_of None = None
length_of (Some v) = Some (length v)

-- the length alone tells whether a step is allowed, and the length after it
pub climb_is : (q : Rules) (d : Option Step) (w : List ℕ) → climb_on q d (length w) ≡ length_of (step_on q d w)
climb_is q (Some s) w = go (allows q s (length w))
  where
    go : (b : Bool) → ◌≡◌ {A = Option ℕ} (Some (length_after s (length w)) if b otherwise None) (length_of (Some (after s w) if b otherwise None))
    go true = ap Some (sym (length_after_lem s w))
    go false = refl
climb_is q None w = refl

-- so a length climbed to is that of the window after the step, and none is climbed to where there is no such window
pub climbs : (q : Rules) (d : Option Step) (w : List ℕ) (n : ℕ) → climb_on q d (length w) ≡ Some n → (v : List ℕ) × (step_on q d w ≡ Some v) × (length v ≡ n)
climbs q d w n e = go (step_on q d w) (sym (climb_is q d w) ∙ e)
  where
    go : (o : Option (List ℕ)) → length_of o ≡ Some n → (v : List ℕ) × (o ≡ Some v) × (length v ≡ n)
    go None f = let z : ◌≡◌ {A = ℕ} 0 1 = cc in absurd (omega arith)
    go (Some v) f = (v, refl, some_injective (length v) n f)

pub climbs_not : (q : Rules) (d : Option Step) (w : List ℕ) → climb_on q d (length w) ≡ None → step_on q d w ≡ None
climbs_not q d w e = go (step_on q d w) (sym (climb_is q d w) ∙ e)
  where
    go : (o : Option (List ℕ)) → length_of o ≡ None → o ≡ None
    go None f = refl
    go (Some v) f = let z : ◌≡◌ {A = ℕ} 0 1 = cc in absurd (omega arith)

-- ---- what it is by the run alone

-- no window on the way is longer
pub highest_most : (q : Rules) (l : List ℕ) (i j : ℕ) (w v : List ℕ) → ran_on q j (take i l) w ≡ ends v → length v ≤ highest q l w
unfolding ran_on highest passes
highest_most q [] zero j w v e = let z : w ≡ v = cc in rw z (omega arith)
highest_most q [] (suc i) j w v e = let z : w ≡ v = cc in rw z (omega arith)
highest_most q (c ∷ cs) zero j w v e = let z : w ≡ v = cc in rw z (omega arith)
highest_most q (c ∷ cs) (suc i) j w v e = go (λ u. highest_most q cs i (suc j) u v) (step_on q (decoded c) w) e
  where
    go : ((u : List ℕ) → ran_on q (suc j) (take i cs) u ≡ ends v → length v ≤ highest q cs u) → (o : Option (List ℕ)) →
        onward j (λ u. ran_on q (suc j) (take i cs) u) o ≡ ends v → length v ≤ max (length w) (tallest (onto (λ u. passes q cs u) o))
    go h None e = let z : ◌≡◌ {A = ℕ} 0 1 = cc in absurd (omega arith)
    go h (Some u) e = omega (arith, h u e)

-- a first part of the steps leads to a window of n keys
pub record Met (q : Rules) (l : List ℕ) (j : ℕ) (w : List ℕ) (n : ℕ) : Type 0 where
  pub steps : ℕ
  pub window : List ℕ
  pub leads : ran_on q j (take steps l) w ≡ ends window
  pub as_long : length window ≡ n

met_at_once : (q : Rules) (l : List ℕ) (j : ℕ) (w : List ℕ) (n : ℕ) → length w ≡ n → Met q l j w n
unfolding ran_on
met_at_once q l j w n e = record { steps = 0; window = w; leads = refl; as_long = e }

met_later : (q : Rules) (c : ℕ) (cs : List ℕ) (j : ℕ) (w u : List ℕ) (n : ℕ) → step_on q (decoded c) w ≡ Some u → Met q cs (suc j) u n → Met q (c ∷ cs) j w n
unfolding ran_on
met_later q c cs j w u n e m = record { steps = suc m.steps; window = m.window; leads = rw e m.leads; as_long = m.as_long }

met_either : (q : Rules) (c : ℕ) (cs : List ℕ) (j : ℕ) (w u : List ℕ) (n : ℕ) (b : Bool) → ltb (length w) n ≡ b → step_on q (decoded c) w ≡ Some u →
    Met q cs (suc j) u n → Met q (c ∷ cs) j w (max (length w) n)
met_either q c cs j w u n true h e m = let z : n ≡ max (length w) n = omega (arith, ltb-true (length w) n h) in subst (Met q (c ∷ cs) j w) z (met_later q c cs j w u n e m)
met_either q c cs j w u n false h e m = met_at_once q (c ∷ cs) j w (max (length w) n) (omega (arith, ltb-false (length w) n h))

-- some window on the way is as long
pub highest_met : (q : Rules) (l : List ℕ) (j : ℕ) (w : List ℕ) → Met q l j w (highest q l w)
unfolding ran_on highest passes
highest_met q [] j w = met_at_once q [] j w (max (length w) 0) (omega arith)
highest_met q (c ∷ cs) j w = go (λ u. highest_met q cs (suc j) u) (step_on q (decoded c) w) refl
  where
    go : ((u : List ℕ) → Met q cs (suc j) u (highest q cs u)) → (o : Option (List ℕ)) → step_on q (decoded c) w ≡ o → Met q (c ∷ cs) j w (max (length w) (tallest (onto (λ u. passes q cs u) o)))
    go h None e = met_at_once q (c ∷ cs) j w (max (length w) 0) (omega arith)
    go h (Some u) e = met_either q c cs j w u (highest q cs u) (ltb (length w) (highest q cs u)) refl e (h u)

-- a start that fits stays within the greatest length
pub highest_fits : (q : Rules) (l w : List ℕ) → length w ≤ q.max_len → highest q l w ≤ q.max_len
unfolding highest passes
highest_fits q [] w f = omega arith
highest_fits q (c ∷ cs) w f = go (λ v. highest_fits q cs v) (decoded c)
  where
    fits : ((v : List ℕ) → length v ≤ q.max_len → highest q cs v ≤ q.max_len) → (s : Step) (b : Bool) → allows q s (length w) ≡ b →
        max (length w) (tallest (onto (λ u. passes q cs u) (Some (after s w) if b otherwise None))) ≤ q.max_len
    fits h s true e = omega (arith, f, h (after s w) (after_fits q s w f e))
    fits h s false e = omega (arith, f)

    go : ((v : List ℕ) → length v ≤ q.max_len → highest q cs v ≤ q.max_len) → (d : Option Step) →
        max (length w) (tallest (onto (λ u. passes q cs u) (step_on q d w))) ≤ q.max_len
    go h (Some s) = fits h s (allows q s (length w)) refl
    go h None = omega (arith, f)

-- the whole stack, with the window at its highest, has at most 1,024 items (request U3)
pub highest_stands : (q : Rules) (l w : List ℕ) → length w ≤ (narrowed q).max_len → too_tall q.beneath (length w) ≡ false → q.beneath + highest (narrowed q) l w ≤ 1024
highest_stands q l w f h =
    let b = tall_sum q.beneath (length w) h in
    tall_sum q.beneath (highest (narrowed q) l w) (narrowed_stands q (highest (narrowed q) l w) (omega (arith, b)) (highest_fits (narrowed q) l w f))
