-- Laws of the stack machine for callers: what a step needs and does, a run by its first step, and replay in two parts.
use Rattle.std.specs.Prelude.{ℕ, zero, suc, ◌+◌, ◌-◌, ◌<◌, ◌≤◌, Bool, true, false, ◌&&◌, List, [], ◌∷◌, ◌++◌, ◌≡◌, refl, ltb, length, get_or, set, drop}
use Rattle.std.specs.Prelude.{Option, None, Some}
use Rattle.std.proofs.Common.{ap, ap₂, sym, ◌∙◌, arith, ltb-true, ltb-false, lt-ltb, le-ltb, length-set, length-drop, get_or-set_same, set-set}
use Rattle.std.proofs.lemmas.List.{set-get_or}
use Rattle.costs.specs.Choice.{◌if◌otherwise◌}
use Rattle.costs.specs.Laws.{or_left}
use Rattle.costs.specs.Step.{decoded}
use Rattle.costs.specs.Table.{any_over}
use Rattle.costs.specs.declared.Step.{Step}
use Rattle.costs.specs.declared.Step.TheVariants.{Pop, Dup, Swap, PushImm, LoadVal}
use Rattle.replay.specs.Laws.{and_left, and_right, or_rest, immediate_key, value_key}
use Rattle.replay.specs.Machine.{Rules, room, immediate, value, allows, after, step_on, onward, Outcome, refuses, stops, ends, ran_on}

-- ---- a step's effect by cases

-- the length after a step on a window of n keys
abbrev pub length_after : Step → ℕ → ℕ
length_after Pop n = n - 1
length_after (Dup p) n = suc n
length_after (Swap d) n = n
length_after (PushImm k) n = suc n
length_after (LoadVal k) n = suc n

pub length_after_lem : (s : Step) (w : List ℕ) → length (after s w) ≡ length_after s (length w)
unfolding after
length_after_lem Pop w = length-drop 1 w
length_after_lem (Dup p) w = refl
length_after_lem (Swap d) w = simp length-set
length_after_lem (PushImm k) w = refl
length_after_lem (LoadVal k) w = refl

pub after_pop : (k : ℕ) (w : List ℕ) → after Pop (k ∷ w) ≡ w
unfolding after
after_pop k w = refl

pub after_dup : (p : ℕ) (w : List ℕ) → after (Dup p) w ≡ get_or w p 0 ∷ w
unfolding after
after_dup p w = refl

pub after_swap : (d : ℕ) (w : List ℕ) → after (Swap d) w ≡ set (set w 0 (get_or w d 0)) d (get_or w 0 0)
unfolding after
after_swap d w = refl

pub after_push : (k : ℕ) (w : List ℕ) → after (PushImm k) w ≡ k ∷ w
unfolding after
after_push k w = refl

pub after_load : (k : ℕ) (w : List ℕ) → after (LoadVal k) w ≡ k ∷ w
unfolding after
after_load k w = refl

-- ---- what allowed steps tell

pub pop_needs : (q : Rules) (n : ℕ) → allows q Pop n ≡ true → 0 < n
unfolding allows
pop_needs q n h = ltb-true 0 n h

pub pop_allowed : (q : Rules) (n : ℕ) → 0 < n → allows q Pop n ≡ true
unfolding allows
pop_allowed q n h = lt-ltb 0 n h

pub swap_needs : (q : Rules) (d n : ℕ) → allows q (Swap d) n ≡ true → (0 < d) × (d < n)
unfolding allows
swap_needs q d n h =
    let g = and_right (ltb 0 d) (ltb d q.swap_max && ltb d n) h in
    (ltb-true _ _ (and_left (ltb 0 d) (ltb d q.swap_max && ltb d n) h), ltb-true _ _ (and_right (ltb d q.swap_max) (ltb d n) g))

-- a Swap is its own inverse
pub swap_twice : (d : ℕ) (w : List ℕ) → 0 < d → d < length w → after (Swap d) (after (Swap d) w) ≡ w
unfolding after
swap_twice d [] h l = absurd (omega arith)
swap_twice zero (x ∷ w) h l = absurd (omega arith)
swap_twice (suc d) (x ∷ w) h l =
    ap₂ (λ (k : ℕ) (v : List ℕ). k ∷ v)
    (get_or-set_same w d x 0 (omega arith))
    (set-set w d x (get_or w d 0) ∙ set-get_or w d 0)

-- what a step that led from v to w did
pub record Did (q : Rules) (d : Option Step) (v w : List ℕ) (s : Step) : Type 0 where
  pub code : d ≡ Some s
  pub allowed : allows q s (length v) ≡ true
  pub leads : after s v ≡ w

pub did : (q : Rules) (d : Option Step) (v w : List ℕ) → step_on q d v ≡ Some w → (s : Step) × Did q d v w s
did q (Some s) v w h = go (allows q s (length v)) refl h
  where
    go : (b : Bool) → allows q s (length v) ≡ b → (Some (after s v) if b otherwise None) ≡ Some w → (t : Step) × Did q (Some s) v w t
    go true a e = (s, record { code = refl; allowed = a; leads = cc })
    go false a e = let z : ◌≡◌ {A = ℕ} 0 1 = cc in absurd (omega arith)
did q None v w h = let z : ◌≡◌ {A = ℕ} 0 1 = cc in absurd (omega arith)

-- and that it did so
pub does : (q : Rules) (d : Option Step) (v w : List ℕ) (s : Step) → Did q d v w s → step_on q d v ≡ Some w
does q d v w s k = rw (k.code, k.allowed, k.leads)

-- ---- keys stay below 64

pub over_get : (m : ℕ) (w : List ℕ) (i : ℕ) → any_over m w ≡ false → get_or w i 0 ≤ m
over_get m [] i h = omega arith
over_get m (x ∷ w) zero h = ltb-false m x (or_left (ltb m x) (any_over m w) h)
over_get m (x ∷ w) (suc i) h = over_get m w i (or_rest (ltb m x) (any_over m w) h)

pub over_cons : (m k : ℕ) (w : List ℕ) → k ≤ m → any_over m w ≡ false → any_over m (k ∷ w) ≡ false
over_cons m k w l h = rw (le-ltb m k l) h

pub over_set : (m : ℕ) (w : List ℕ) (i k : ℕ) → k ≤ m → any_over m w ≡ false → any_over m (set w i k) ≡ false
over_set m [] i k l h = h
over_set m (x ∷ w) zero k l h = over_cons m k w l (or_rest (ltb m x) (any_over m w) h)
over_set m (x ∷ w) (suc i) k l h =
    over_cons m x (set w i k) (ltb-false m x (or_left (ltb m x) (any_over m w) h)) (over_set m w i k l (or_rest (ltb m x) (any_over m w) h))

pub over_drop : (m : ℕ) (w : List ℕ) → any_over m w ≡ false → any_over m (drop 1 w) ≡ false
over_drop m [] h = h
over_drop m (x ∷ w) h = or_rest (ltb m x) (any_over m w) h

pub keys_after : (q : Rules) (s : Step) (w : List ℕ) → allows q s (length w) ≡ true → any_over 63 w ≡ false → any_over 63 (after s w) ≡ false
unfolding after allows
keys_after q Pop w a h = over_drop 63 w h
keys_after q (Dup p) w a h = over_cons 63 (get_or w p 0) w (over_get 63 w p h) h
keys_after q (Swap d) w a h =
    over_set 63 (set w 0 (get_or w d 0)) d (get_or w 0 0) (over_get 63 w 0 h) (over_set 63 w 0 (get_or w d 0) (over_get 63 w d h) h)
keys_after q (PushImm k) w a h =
    let l = immediate_key q.kinds k (and_left (immediate q.kinds k) (room q.max_len (length w)) a) in
    over_cons 63 k w (omega arith) h
keys_after q (LoadVal k) w a h =
    let l = value_key q.kinds k (and_left (value q.kinds k) (room q.max_len (length w)) a) in
    over_cons 63 k w (omega arith) h

-- ---- a run by its first step

pub ran_none : (q : Rules) (i : ℕ) (w : List ℕ) → ran_on q i [] w ≡ ends w
unfolding ran_on
ran_none q i w = refl

pub ran_goes : (q : Rules) (i c : ℕ) (cs w v : List ℕ) → step_on q (decoded c) w ≡ Some v → ran_on q i (c ∷ cs) w ≡ ran_on q (suc i) cs v
unfolding ran_on
ran_goes q i c cs w v e = rw e

-- a run that ends went on from a window after its first step
pub ran_went : (q : Rules) (i c : ℕ) (cs w end : List ℕ) → ran_on q i (c ∷ cs) w ≡ ends end → (v : List ℕ) × (step_on q (decoded c) w ≡ Some v) × (ran_on q (suc i) cs v ≡ ends end)
unfolding ran_on
ran_went q i c cs w end e = go (step_on q (decoded c) w) e
  where
    go : (o : Option (List ℕ)) → onward i (λ v. ran_on q (suc i) cs v) o ≡ ends end → (v : List ℕ) × (o ≡ Some v) × (ran_on q (suc i) cs v ≡ ends end)
    go None h = let z : ◌≡◌ {A = ℕ} 0 1 = cc in absurd (omega arith)
    go (Some v) h = (v, refl, h)

-- ---- replay in two parts

-- what follows a first part of the steps
abbrev pub continued : (List ℕ → Outcome) → Outcome → Outcome
continued next (refuses n) = refuses n
continued next (stops i) = stops i
continued next (ends w) = next w

pub ran_append : (q : Rules) (i : ℕ) (xs ys w : List ℕ) → ran_on q i (xs ++ ys) w ≡ continued (λ v. ran_on q (i + length xs) ys v) (ran_on q i xs w)
unfolding ran_on
ran_append q i [] ys w = let e : i ≡ i + 0 = omega arith in ap (λ (j : ℕ). ran_on q j ys w) e
ran_append q i (x ∷ xs) ys w = go (λ v. ran_append q (suc i) xs ys v) (step_on q (decoded x) w)
  where
    shift : suc i + length xs ≡ i + suc (length xs)
    shift = omega arith

    go : ((v : List ℕ) → ran_on q (suc i) (xs ++ ys) v ≡ continued (λ u. ran_on q (suc i + length xs) ys u) (ran_on q (suc i) xs v)) → (o : Option (List ℕ)) → onward i (λ v. ran_on q (suc i) (xs ++ ys) v) o ≡ continued (λ v. ran_on q (i + suc (length xs)) ys v) (onward i (λ v. ran_on q (suc i) xs v) o)
    go h None = refl
    go h (Some v) = h v ∙ ap (λ (j : ℕ). continued (λ u. ran_on q j ys u) (ran_on q (suc i) xs v)) shift

-- the second part starts where the first ended
pub ran_then : (q : Rules) (i : ℕ) (xs ys w v : List ℕ) → ran_on q i xs w ≡ ends v → ran_on q i (xs ++ ys) w ≡ ran_on q (i + length xs) ys v
ran_then q i xs ys w v e = ran_append q i xs ys w ∙ ap (continued (λ u. ran_on q (i + length xs) ys u)) e

-- a run that ends had a window between its parts
pub ran_parts : (q : Rules) (i : ℕ) (xs ys w end : List ℕ) → ran_on q i (xs ++ ys) w ≡ ends end → (v : List ℕ) × (ran_on q i xs w ≡ ends v) × (ran_on q (i + length xs) ys v ≡ ends end)
ran_parts q i xs ys w end e = go (ran_on q i xs w) (sym (ran_append q i xs ys w) ∙ e)
  where
    go : (o : Outcome) → continued (λ v. ran_on q (i + length xs) ys v) o ≡ ends end → (v : List ℕ) × (o ≡ ends v) × (ran_on q (i + length xs) ys v ≡ ends end)
    go (refuses n) h = let z : ◌≡◌ {A = ℕ} 0 1 = cc in absurd (omega arith)
    go (stops j) h = let z : ◌≡◌ {A = ℕ} 0 1 = cc in absurd (omega arith)
    go (ends v) h = (v, refl, h)

-- where it ends does not depend on where its steps are counted from
pub ran_from : (q : Rules) (i j : ℕ) (cs w end : List ℕ) → ran_on q i cs w ≡ ends end → ran_on q j cs w ≡ ends end
ran_from q i j [] w end e = ran_none q j w ∙ sym (ran_none q i w) ∙ e
ran_from q i j (c ∷ cs) w end e =
    let t = ran_went q i c cs w end e in
    ran_goes q j c cs w t.0 t.1 ∙ ran_from q (suc i) (suc j) cs t.0 end t.2
