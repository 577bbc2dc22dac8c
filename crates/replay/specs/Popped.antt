-- Laws of the popped keys.
use Rattle.std.specs.Prelude.{ℕ, zero, suc, ◌+◌, ◌/◌, ◌%◌, ◌<◌, ◌≤◌, Bool, true, false, List, [], ◌∷◌, ◌++◌, ◌≡◌, refl, eqb, length, get_or, take, drop}
use Rattle.std.proofs.Common.{append-nil, append_assoc, ap, sym, subst, ◌∙◌, arith, ne_eqb, lt-ltb, length-append, drop_of_length-le}
use Rattle.std.specs.Prelude.{None, Some, Option}
use Rattle.costs.specs.Choice.{◌if◌otherwise◌}
use Rattle.costs.specs.Laws.{drop_turn}
use Rattle.costs.specs.Step.{decoded, of_kind}
use Rattle.costs.specs.Table.{any_over, count_of}
use Rattle.costs.specs.declared.Step.TheVariants.{Pop, Dup, Swap, PushImm, LoadVal}
use Rattle.costs.specs.declared.Step.{Step}
use Rattle.replay.specs.Machine.{Rules, allows, step_on, ends, ran_on, gone_by, popped_on}
use Rattle.replay.specs.Laws.{after_fits}
use Rattle.replay.specs.Steps.{did, ran_none, ran_went, over_get, over_cons, keys_after}

-- no steps pop nothing
pub popped_none : (q : Rules) (w : List ℕ) → popped_on q [] w ≡ []
unfolding popped_on
popped_none q w = refl

-- what the first step pops, then what the others pop off the window after it
pub popped_goes : (q : Rules) (c : ℕ) (cs w v : List ℕ) → step_on q (decoded c) w ≡ Some v → popped_on q (c ∷ cs) w ≡ gone_by (decoded c) w ++ popped_on q cs v
unfolding popped_on
popped_goes q c cs w v e = rw e

-- in two parts
pub popped_append : (q : Rules) (i : ℕ) (xs ys w v : List ℕ) → ran_on q i xs w ≡ ends v → popped_on q (xs ++ ys) w ≡ popped_on q xs w ++ popped_on q ys v
popped_append q i [] ys w v e =
    let n : ends w ≡ ends v = sym (ran_none q i w) ∙ e in
    let k : w ≡ v = cc in
    rw (popped_none q w) (ap (popped_on q ys) k)
popped_append q i (c ∷ xs) ys w v e =
    let t = ran_went q i c xs w v e in
    popped_goes q c (xs ++ ys) w t.0 t.1
    ∙ ap (λ (l : List ℕ). gone_by (decoded c) w ++ l) (popped_append q (suc i) xs ys t.0 v t.2)
    ∙ sym (append_assoc (gone_by (decoded c) w) (popped_on q xs t.0) (popped_on q ys v))
    ∙ ap (λ (l : List ℕ). l ++ popped_on q ys v) (sym (popped_goes q c xs w t.0 t.1))

-- only the code 0 pops
kind_keeps : (k p : ℕ) (w : List ℕ) → gone_by (of_kind k p) w ≡ []
kind_keeps k p w = one (eqb k 1)
  where
    four : (b : Bool) → gone_by (Some (LoadVal p) if b otherwise None) w ≡ []
    four true = refl
    four false = refl

    three : (b : Bool) → gone_by (Some (PushImm p) if b otherwise Some (LoadVal p) if eqb k 4 otherwise None) w ≡ []
    three true = refl
    three false = four (eqb k 4)

    two : (b : Bool) → gone_by (Some (Swap p) if b otherwise Some (PushImm p) if eqb k 3 otherwise Some (LoadVal p) if eqb k 4 otherwise None) w ≡ []
    two true = refl
    two false = three (eqb k 3)

    one : (b : Bool) → gone_by (Some (Dup p) if b otherwise Some (Swap p) if eqb k 2 otherwise Some (PushImm p) if eqb k 3 otherwise Some (LoadVal p) if eqb k 4 otherwise None) w ≡ []
    one true = refl
    one false = two (eqb k 2)

pub code_keeps : (c : ℕ) (w : List ℕ) → (c ≡ 0 → ⊥) → gone_by (decoded c) w ≡ []
unfolding decoded
code_keeps c w h = rw (ne_eqb c 0 h) (kind_keeps (c / 256) (c % 256) w)

-- a step that is not allowed pops nothing
pop_stopped : (q : Rules) (w : List ℕ) → step_on q (Some Pop) w ≡ None → take 1 w ≡ []
unfolding allows
pop_stopped q [] h = refl
pop_stopped q (k ∷ w) h =
    let l : 0 < suc (length w) = omega arith in
    let e = rw (lt-ltb 0 (suc (length w)) l) at h in
    let z : ◌≡◌ {A = ℕ} 0 1 = cc in
    absurd (omega arith)

stopped_keeps : (q : Rules) (d : Option Step) (w : List ℕ) → step_on q d w ≡ None → gone_by d w ≡ []
stopped_keeps q (Some Pop) w h = pop_stopped q w h
stopped_keeps q (Some (Dup p)) w h = refl
stopped_keeps q (Some (Swap d)) w h = refl
stopped_keeps q (Some (PushImm k)) w h = refl
stopped_keeps q (Some (LoadVal k)) w h = refl
stopped_keeps q None w h = refl

pub popped_stops : (q : Rules) (c : ℕ) (cs w : List ℕ) → step_on q (decoded c) w ≡ None → popped_on q (c ∷ cs) w ≡ []
unfolding popped_on
popped_stops q c cs w e = rw e (append-nil (gone_by (decoded c) w) ∙ stopped_keeps q (decoded c) w e)

-- one turn of a walk over the codes
pub popped_turn_stops : (q : Rules) (l : List ℕ) (i : ℕ) (w : List ℕ) → i < length l → step_on q (decoded (get_or l i 0)) w ≡ None → popped_on q (drop i l) w ≡ []
popped_turn_stops q l i w h e = rw (drop_turn l i h) (popped_stops q (get_or l i 0) (drop (i + 1) l) w e)

pub popped_turn_goes : (q : Rules) (l : List ℕ) (i : ℕ) (w v : List ℕ) → i < length l → step_on q (decoded (get_or l i 0)) w ≡ Some v →
    popped_on q (drop i l) w ≡ gone_by (decoded (get_or l i 0)) w ++ popped_on q (drop (i + 1) l) v
popped_turn_goes q l i w v h e = rw (drop_turn l i h) (popped_goes q (get_or l i 0) (drop (i + 1) l) w v e)

pub popped_ends : (q : Rules) (l : List ℕ) (i : ℕ) (w : List ℕ) → length l ≤ i → popped_on q (drop i l) w ≡ []
popped_ends q l i w h = rw (drop_of_length-le l h) (popped_none q w)

-- a Pop that is allowed takes the top key
pub pop_takes : (q : Rules) (w v : List ℕ) → step_on q (decoded 0) w ≡ Some v → (0 < length w) × (gone_by (decoded 0) w ≡ get_or w 0 0 ∷ [])
unfolding decoded allows
pop_takes q [] v h = let z : ◌≡◌ {A = ℕ} 0 1 = cc in absurd (omega arith)
pop_takes q (k ∷ w) v h = (omega arith, refl)

-- ---- what a run that ends keeps

-- the end and the popped keys are as the start was: keys below 64, no longer than the greatest length; a key popped for each code 0
pub record Kept (q : Rules) (cs w e : List ℕ) : Type 0 where
  pub end_low : any_over 63 e ≡ false
  pub popped_low : any_over 63 (popped_on q cs w) ≡ false
  pub end_fits : length e ≤ q.max_len
  pub counted : length (popped_on q cs w) ≡ count_of 0 cs

-- one code: what it pops
record One (c : ℕ) (w : List ℕ) : Type 0 where
  low : any_over 63 w ≡ false → (l : List ℕ) → any_over 63 l ≡ false → any_over 63 (gone_by (decoded c) w ++ l) ≡ false
  count : (n : ℕ) → length (gone_by (decoded c) w) + n ≡ (suc n if eqb c 0 otherwise n)

one_of : (q : Rules) (c : ℕ) (w v : List ℕ) → step_on q (decoded c) w ≡ Some v → One c w
one_of q zero w v s =
    let t = pop_takes q w v s in
    record {
      low = λ h l k. subst (λ (g : List ℕ). any_over 63 (g ++ l) ≡ false) (sym t.1) (over_cons 63 (get_or w 0 0) l (over_get 63 w 0 h) k);
      count = λ n. ap (λ (g : List ℕ). length g + n) t.1 ∙ add_first n;
    }
  where
    add_first : (n : ℕ) → 1 + n ≡ suc n
    add_first n = omega arith
one_of q (suc c) w v s =
    let p : suc c ≡ 0 → ⊥ = omega arith in
    let t = code_keeps (suc c) w p in
    record {
      low = λ h l k. subst (λ (g : List ℕ). any_over 63 (g ++ l) ≡ false) (sym t) k;
      count = λ n. ap (λ (g : List ℕ). length g + n) t ∙ rw (ne_eqb (suc c) 0 p) (none_first n);
    }
  where
    none_first : (n : ℕ) → 0 + n ≡ n
    none_first n = omega arith

pub kept : (q : Rules) (cs : List ℕ) (i : ℕ) (w e : List ℕ) → length w ≤ q.max_len → any_over 63 w ≡ false → ran_on q i cs w ≡ ends e → Kept q cs w e
kept q [] i w e f k h =
    let n : ends w ≡ ends e = sym (ran_none q i w) ∙ h in
    let t : w ≡ e = cc in
    record {
      end_low = subst (λ (x : List ℕ). any_over 63 x ≡ false) t k;
      popped_low = ap (any_over 63) (popped_none q w);
      end_fits = subst (λ (x : List ℕ). length x ≤ q.max_len) t f;
      counted = ap length (popped_none q w);
    }
kept q (c ∷ cs) i w e f k h =
    let t = ran_went q i c cs w e h in
    let v = t.0 in
    let d = did q (decoded c) w v t.1 in
    let fits : length v ≤ q.max_len = subst (λ (x : List ℕ). length x ≤ q.max_len) d.1.leads (after_fits q d.0 w f d.1.allowed) in
    let low : any_over 63 v ≡ false = subst (λ (x : List ℕ). any_over 63 x ≡ false) d.1.leads (keys_after q d.0 w d.1.allowed k) in
    let r = kept q cs (suc i) v e fits low t.2 in
    let o = one_of q c w v t.1 in
    let p = popped_goes q c cs w v t.1 in
    record {
      end_low = r.end_low;
      popped_low = subst (λ (x : List ℕ). any_over 63 x ≡ false) (sym p) (o.low k (popped_on q cs v) r.popped_low);
      end_fits = r.end_fits;
      counted = ap length p ∙ length-append (gone_by (decoded c) w) (popped_on q cs v) ∙ o.count (length (popped_on q cs v)) ∙ ap (λ (n : ℕ). suc n if eqb c 0 otherwise n) r.counted;
    }
