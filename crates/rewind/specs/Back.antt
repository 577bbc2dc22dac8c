-- Stepping back as its caller gets it: the start is given exactly where some start led here, and 11 exactly where none did.
use Rattle.std.specs.Prelude.{ℕ, zero, suc, ◌<◌, ◌≤◌, Bool, true, false, ◌||◌, List, ◌↔◌, ◌≡◌, refl, length, take, drop, ltb}
use Rattle.std.specs.Prelude.{Option, None, Some}
use Rattle.std.proofs.Common.{ap, sym, subst, ◌∙◌, arith, take_at}
use Rattle.costs.specs.Choice.{◌if◌otherwise◌}
use Rattle.costs.specs.Table.{any_over, kinds_fault}
use Rattle.replay.specs.Machine.{Rules}
use Rattle.replay.specs.Beneath.{narrowed, too_tall, tall_sum}
use Rattle.replay.specs.Replay.{reach_fault, over}
use Rattle.rewind.specs.Walk.{start_before}
use Rattle.rewind.specs.Led.{LedBack, SteppedBack}
use Rattle.rewind.specs.Rewind.{rewind_table, rewind_refusal, refused, given, found, rewound}
use Rattle.rewind.specs.Laws.{accepted, rewound_refused, rewound_accepted}
use Rattle.rewind.specs.Theorems.{finds, found_led}
use Rattle.rewind.specs.declared.Rewound.{Rewound}

-- two starts given alike are one
given_one : (a b old : List ℕ) → given a old ≡ given b old → a ≡ b
given_one a b old e =
    let n : length a ≡ length b = ap (λ (x : Rewound × List ℕ). x.0.length) e in
    let t : over a old ≡ over b old = ap (λ (x : Rewound × List ℕ). x.1) e in
    sym (take_at a (drop (length a) old) (length b) n) ∙ ap (take (length b)) t ∙ take_at b (drop (length b) old) (length b) refl

given_found : (o : Option (List ℕ)) (start old : List ℕ) → found o old ≡ given start old → o ≡ Some start
given_found None start old e = let z : ◌≡◌ {A = ℕ} 11 0 = ap (λ (x : Rewound × List ℕ). x.0.refusal) e in absurd (omega arith)
given_found (Some w) start old e = ap (λ (x : List ℕ). Some x) (given_one w start old e)

none_found : (o : Option (List ℕ)) (old : List ℕ) → (found o old).0.refusal ≡ 11 → o ≡ None
none_found None old e = refl
none_found (Some w) old e = absurd (omega arith)

some_found : (o : Option (List ℕ)) (old : List ℕ) → (found o old).0.refusal ≡ 0 → (w : List ℕ) × (o ≡ Some w)
some_found None old e = absurd (omega arith)
some_found (Some w) old e = (w, refl)

not_eight : (o : Option (List ℕ)) (old : List ℕ) → (found o old).0.refusal ≡ 8 → ⊥
not_eight None old e = omega arith
not_eight (Some w) old e = omega arith

no_start : (o : Option (List ℕ)) → ((w : List ℕ) → o ≡ Some w → ⊥) → o ≡ None
no_start None h = refl
no_start (Some w) h = absurd (h w refl)

module _ (q : Rules) (end steps popped result : List ℕ) (h : rewind_refusal q end (length steps) popped (length result) ≡ 0) where
  led_found : (start : List ℕ) → LedBack q start steps popped end ↔ (start_before (narrowed q) end steps popped ≡ Some start)
  led_found start =
      let k = accepted q end (length steps) popped (length result) h in
      let b : q.beneath ≤ 1024 = omega (arith, tall_sum q.beneath (length end) k.stands) in
      (finds q start steps popped end, found_led q start steps popped end b k.fits k.end_low k.popped_low)

  -- past the table: this start is given exactly if it led here
  pub given_iff_led : (start : List ℕ) → LedBack q start steps popped end ↔ (rewound q end steps popped result ≡ given start result)
  given_iff_led start = (
    λ l. rewound_accepted q end steps popped result h ∙ ap (λ (o : Option (List ℕ)). found o result) ((led_found start).0 l),
    λ e. (led_found start).1 (given_found (start_before (narrowed q) end steps popped) start result (sym (rewound_accepted q end steps popped result h) ∙ e)),
  )

  -- and 11 exactly if no start did
  pub refused_iff_none : ((start : List ℕ) → LedBack q start steps popped end → ⊥) ↔ (rewound q end steps popped result ≡ refused 11 result)
  refused_iff_none = (
    λ n. rewound_accepted q end steps popped result h ∙ ap (λ (o : Option (List ℕ)). found o result) (no_start (start_before (narrowed q) end steps popped) (λ w e. n w ((led_found w).1 e))),
    λ e start l.
        let z : ◌≡◌ {A = ℕ} 0 11 = ap (λ (x : Rewound × List ℕ). x.0.refusal) (sym ((given_iff_led start).0 l) ∙ e) in
        omega arith,
  )

-- ---- on all input

-- the request's sentence holds of what the definition gives
stepped_back : (q : Rules) (end steps popped result : List ℕ) → SteppedBack q end steps popped result (rewound q end steps popped result)
stepped_back q end steps popped result = record {
  lower = rewound_refused q end steps popped result (rewind_refusal q end (length steps) popped (length result)) refl;
  given_iff = given_iff_led q end steps popped result;
  none_iff = refused_iff_none q end steps popped result;
}

-- and so of the answer that the equation gives
pub both : (q : Rules) (end steps popped result : List ℕ) (r : Rewound × List ℕ) → r ≡ rewound q end steps popped result → (r ≡ rewound q end steps popped result) × SteppedBack q end steps popped result r
both q end steps popped result r e = (e, subst (SteppedBack q end steps popped result) (sym e) (stepped_back q end steps popped result))

-- the number of an answer
abbrev pub number : Rewound × List ℕ → ℕ
number r = r.0.refusal

row_not : (k n m : ℕ) (b : Bool) → (n ≡ k → ⊥) → (m ≡ k → ⊥) → (n if b otherwise m) ≡ k → ⊥
row_not k n m true h l = h
row_not k n m false h l = l

-- the table has no number over 7 but 12
not_row : (q : Rules) (end : List ℕ) (steps : ℕ) (popped : List ℕ) (places k : ℕ) → 7 < k → k < 12 → rewind_refusal q end steps popped places ≡ k → ⊥
unfolding rewind_table
not_row q end steps popped places k h g =
    row_not k 1 _ (reach_fault q.dup_max q.swap_max) (λ e. omega (arith, e, h))
    (row_not k 2 _ (ltb 21 q.max_len) (λ e. omega (arith, e, h))
    (row_not k 3 _ (ltb 65536 steps) (λ e. omega (arith, e, h))
    (row_not k 4 _ (kinds_fault q.kinds) (λ e. omega (arith, e, h))
    (row_not k 5 _ (any_over 63 end || any_over 63 popped) (λ e. omega (arith, e, h))
    (row_not k 12 _ (too_tall q.beneath (length end)) (λ e. omega (arith, e, g))
    (row_not k 6 _ (ltb q.max_len (length end)) (λ e. omega (arith, e, h))
    (row_not k 7 0 (ltb places 21) (λ e. omega (arith, e, h)) (λ e. omega (arith, e, h)))))))))

module _ (q : Rules) (end steps popped result : List ℕ) where
  -- the number is the first that applies, and 0 or 11 where none does
  none_lower : (n : ℕ) → n ≡ rewind_refusal q end (length steps) popped (length result) → (number (rewound q end steps popped result) ≡ n → ⊥) → n ≡ 0
  none_lower zero e h = refl
  none_lower (suc n) e h = absurd (h (ap number (rewound_refused q end steps popped result (suc n) e (λ z. omega (arith, z)))))

  -- number 0 exactly if no number of the table applies and some start led here
  pub zero_iff_some : (number (rewound q end steps popped result) ≡ 0) ↔
      ((rewind_refusal q end (length steps) popped (length result) ≡ 0) × ((start : List ℕ) × LedBack q start steps popped end))
  zero_iff_some = (
    λ z.
        let r = rewind_refusal q end (length steps) popped (length result) in
        let h : r ≡ 0 = zero_only r refl z in
        let w = some_found (start_before (narrowed q) end steps popped) result (ap number (sym (rewound_accepted q end steps popped result h)) ∙ z) in
        (h, (w.0, (led_found q end steps popped result h w.0).1 w.1)),
    λ p. ap number ((given_iff_led q end steps popped result p.0 p.1.0).0 p.1.1),
  )
    where
      zero_only : (n : ℕ) → n ≡ rewind_refusal q end (length steps) popped (length result) → number (rewound q end steps popped result) ≡ 0 → n ≡ 0
      zero_only zero e z = refl
      zero_only (suc n) e z = none_lower (suc n) e (λ k. omega (arith, k, z))

  -- number 11 exactly if no number of the table applies and no start led here
  pub eleven_iff_none : (number (rewound q end steps popped result) ≡ 11) ↔
      ((rewind_refusal q end (length steps) popped (length result) ≡ 0) × ((start : List ℕ) → LedBack q start steps popped end → ⊥))
  eleven_iff_none = (
    λ z.
        let r = rewind_refusal q end (length steps) popped (length result) in
        let h : r ≡ 0 = none_lower r refl (λ k. not_row q end (length steps) popped (length result) 11 (omega arith) (omega arith) (sym k ∙ z)) in (
          h,
          (refused_iff_none q end steps popped result h).1
              (rewound_accepted q end steps popped result h ∙ ap (λ (o : Option (List ℕ)). found o result) (none_found (start_before (narrowed q) end steps popped) result (ap number (sym (rewound_accepted q end steps popped result h)) ∙ z))),
        ),
    λ p. ap number ((refused_iff_none q end steps popped result p.0).0 p.1),
  )

  -- 8 is not given
  pub never_eight : number (rewound q end steps popped result) ≡ 8 → ⊥
  never_eight z =
      let r = rewind_refusal q end (length steps) popped (length result) in
      let h : r ≡ 0 = none_lower r refl (λ k. not_row q end (length steps) popped (length result) 8 (omega arith) (omega arith) (sym k ∙ z)) in
      not_eight (start_before (narrowed q) end steps popped) result (ap number (sym (rewound_accepted q end steps popped result h)) ∙ z)
