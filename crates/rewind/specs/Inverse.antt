-- One step back, and the same step forth.
use Rattle.std.specs.Prelude.{ℕ, suc, ◌≤◌, Bool, true, false, ◌&&◌, List, [], ◌∷◌, ◌++◌, ◌≡◌, refl, eqb, length}
use Rattle.std.specs.Prelude.{Option, None, Some}
use Rattle.std.proofs.Common.{ap, sym, subst, ◌∙◌, arith, eqb-true, eq-eqb}
use Rattle.costs.specs.Choice.{◌if◌otherwise◌}
use Rattle.costs.specs.Table.{any_over}
use Rattle.costs.specs.declared.Step.{Step}
use Rattle.costs.specs.declared.Step.TheVariants.{Pop, Dup, Swap, PushImm, LoadVal}
use Rattle.replay.specs.Laws.{and_left, and_right, room_below, room_there}
use Rattle.replay.specs.Steps.{length_after_lem, after_pop, after_dup, after_push, after_load, pop_needs, pop_allowed, swap_needs, swap_twice, over_get, over_cons, over_drop, keys_after}
use Rattle.replay.specs.Machine.{Rules, room, allows, after, gone_by}
use Rattle.rewind.specs.Walk.{Place, place, put_by, regrown, ungrown, unswapped, back_over}

-- what a step back from w to v says: forth again the step is allowed, leads back, and pops what was put back
pub record StepBack (q : Rules) (s : Step) (w left v rest : List ℕ) : Type 0 where
  pub fits : length v ≤ q.max_len
  pub allowed : allows q s (length v) ≡ true
  pub leads : after s v ≡ w
  pub gone : left ≡ gone_by (Some s) v ++ rest

-- ---- one step

-- what holds of the place chosen
kept : (P : Place → Type 0) (b : Bool) (x y : Place) → (b ≡ true → P x) → (Some x if b otherwise None) ≡ Some y → P y
kept P true x y f h = let e : x ≡ y = cc in subst P e (f refl)
kept P false x y f h = let z : ◌≡◌ {A = ℕ} 0 1 = cc in absurd (omega arith)

not_none : {A : Type 0} (x : A) → ◌≡◌ {A = Option A} None (Some x) → ⊥
not_none x h = let z : ◌≡◌ {A = ℕ} 0 1 = cc in omega arith

-- keys below 64, in the window and among the keys not yet put back
pub record Low (w left : List ℕ) : Type 0 where
  pub window_low : any_over 63 w ≡ false
  pub left_low : any_over 63 left ≡ false

module _ (q : Rules) where
  unpopped : (w left : List ℕ) (b : Place) → regrown q.max_len w left ≡ Some b → StepBack q Pop w left b.window b.left
  unpopped w [] b h = absurd (not_none b h)
  unpopped w (k ∷ left) b h =
      kept (λ (x : Place). StepBack q Pop w (k ∷ left) x.window x.left) (room q.max_len (length w)) (place (k ∷ w) left) b
      (λ r. record { fits = room_below _ _ r; allowed = pop_allowed q (suc (length w)) (omega arith); leads = after_pop k w; gone = refl }) h

  -- a step that puts a key on top
  record Puts (s : Step) : Type 0 where
    puts : (w : List ℕ) → after s w ≡ put_by s w ∷ w
    keeps : (w : List ℕ) → gone_by (Some s) w ≡ []

  unput : (s : Step) → Puts s → (w left : List ℕ) (b : Place) → length w ≤ q.max_len → ungrown q s w left ≡ Some b → StepBack q s w left b.window b.left
  unput s p [] left b f h = absurd (not_none b h)
  unput s p (k ∷ w) left b f h =
      kept (λ (x : Place). StepBack q s (k ∷ w) left x.window x.left) (allows q s (length w) && eqb (put_by s w) k) (place w left) b
      (λ r.
      let a = and_left (allows q s (length w)) (eqb (put_by s w) k) r in
      let e : put_by s w ≡ k = eqb-true _ _ (and_right (allows q s (length w)) (eqb (put_by s w) k) r) in
      record { fits = omega arith; allowed = a; leads = p.puts w ∙ ap (λ (j : ℕ). j ∷ w) e; gone = ap (λ (g : List ℕ). g ++ left) (sym (p.keeps w)) }) h

  put_dup : (p : ℕ) → Puts (Dup p)
  put_dup p = record { puts = after_dup p; keeps = λ w. refl }

  put_imm : (k : ℕ) → Puts (PushImm k)
  put_imm k = record { puts = after_push k; keeps = λ w. refl }

  put_val : (k : ℕ) → Puts (LoadVal k)
  put_val k = record { puts = after_load k; keeps = λ w. refl }

  unswap : (d : ℕ) (w left : List ℕ) (b : Place) → length w ≤ q.max_len → unswapped q (Swap d) w left ≡ Some b → StepBack q (Swap d) w left b.window b.left
  unswap d w left b f h =
      kept (λ (x : Place). StepBack q (Swap d) w left x.window x.left) (allows q (Swap d) (length w)) (place (after (Swap d) w) left) b
      (λ r.
      let n : length (after (Swap d) w) ≡ length w = length_after_lem (Swap d) w in
      let l = swap_needs q d (length w) r in
      record { fits = omega arith; allowed = rw n r; leads = swap_twice d w l.0 l.1; gone = refl }) h

  -- back, then forth
  pub undone : (s : Step) (w left : List ℕ) (b : Place) → length w ≤ q.max_len → back_over q s w left ≡ Some b → StepBack q s w left b.window b.left
  unfolding back_over
  undone Pop w left b f h = unpopped w left b h
  undone (Dup p) w left b f h = unput (Dup p) (put_dup p) w left b f h
  undone (Swap d) w left b f h = unswap d w left b f h
  undone (PushImm k) w left b f h = unput (PushImm k) (put_imm k) w left b f h
  undone (LoadVal k) w left b f h = unput (LoadVal k) (put_val k) w left b f h

  -- forth, then back
  popped_again : (v rest : List ℕ) → length v ≤ q.max_len → allows q Pop (length v) ≡ true → regrown q.max_len (after Pop v) (gone_by (Some Pop) v ++ rest) ≡ Some (place v rest)
  popped_again [] rest f a = absurd (omega (arith, pop_needs q 0 a))
  popped_again (k ∷ v) rest f a = rw (after_pop k v, room_there q.max_len (length v) f)

  put_again : (s : Step) → Puts s → (v rest : List ℕ) → allows q s (length v) ≡ true → ungrown q s (after s v) (gone_by (Some s) v ++ rest) ≡ Some (place v rest)
  put_again s p v rest a = rw (p.puts v, p.keeps v, a, eq-eqb (put_by s v) (put_by s v) refl)

  swapped_again : (d : ℕ) (v rest : List ℕ) → allows q (Swap d) (length v) ≡ true → unswapped q (Swap d) (after (Swap d) v) rest ≡ Some (place v rest)
  swapped_again d v rest a =
      let l = swap_needs q d (length v) a in
      rw (length_after_lem (Swap d) v, a, swap_twice d v l.0 l.1)

  pub redone : (s : Step) (v rest : List ℕ) → length v ≤ q.max_len → allows q s (length v) ≡ true → back_over q s (after s v) (gone_by (Some s) v ++ rest) ≡ Some (place v rest)
  unfolding back_over
  redone Pop v rest f a = popped_again v rest f a
  redone (Dup p) v rest f a = put_again (Dup p) (put_dup p) v rest a
  redone (Swap d) v rest f a = swapped_again d v rest a
  redone (PushImm k) v rest f a = put_again (PushImm k) (put_imm k) v rest a
  redone (LoadVal k) v rest f a = put_again (LoadVal k) (put_val k) v rest a

  -- ---- keys stay below 64 on the way back

  low_put : (s : Step) (w left : List ℕ) (b : Place) → Low w left → ungrown q s w left ≡ Some b → Low b.window b.left
  low_put s [] left b l h = absurd (not_none b h)
  low_put s (k ∷ w) left b l h =
      kept (λ (x : Place). Low x.window x.left) (allows q s (length w) && eqb (put_by s w) k) (place w left) b
      (λ r. record { window_low = over_drop 63 (k ∷ w) l.window_low; left_low = l.left_low }) h

  low_pop : (w left : List ℕ) (b : Place) → Low w left → regrown q.max_len w left ≡ Some b → Low b.window b.left
  low_pop w [] b l h = absurd (not_none b h)
  low_pop w (k ∷ left) b l h =
      kept (λ (x : Place). Low x.window x.left) (room q.max_len (length w)) (place (k ∷ w) left) b
      (λ r. record { window_low = over_cons 63 k w (over_get 63 (k ∷ left) 0 l.left_low) l.window_low; left_low = over_drop 63 (k ∷ left) l.left_low }) h

  low_swap : (d : ℕ) (w left : List ℕ) (b : Place) → Low w left → unswapped q (Swap d) w left ≡ Some b → Low b.window b.left
  low_swap d w left b l h =
      kept (λ (x : Place). Low x.window x.left) (allows q (Swap d) (length w)) (place (after (Swap d) w) left) b
      (λ r. record { window_low = keys_after q (Swap d) w r l.window_low; left_low = l.left_low }) h

  pub low_back : (s : Step) (w left : List ℕ) (b : Place) → Low w left → back_over q s w left ≡ Some b → Low b.window b.left
  unfolding back_over
  low_back Pop w left b l h = low_pop w left b l h
  low_back (Dup p) w left b l h = low_put (Dup p) w left b l h
  low_back (Swap d) w left b l h = low_swap d w left b l h
  low_back (PushImm k) w left b l h = low_put (PushImm k) w left b l h
  low_back (LoadVal k) w left b l h = low_put (LoadVal k) w left b l h
