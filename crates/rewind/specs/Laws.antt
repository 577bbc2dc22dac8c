-- Laws of stepping back's refusals.
use Rattle.std.specs.Prelude.{ℕ, ◌≤◌, Bool, false, ◌||◌, List, ◌≡◌, refl, ltb, length}
use Rattle.std.proofs.Common.{ap, ◌∙◌, arith, ltb-false, le-ltb, ne_eqb}
use Rattle.costs.specs.Choice.{◌if◌otherwise◌}
use Rattle.costs.specs.Laws.{or_left, passed, kinds_length}
use Rattle.costs.specs.Table.{any_over, kinds_fault}
use Rattle.replay.specs.Machine.{Rules}
use Rattle.replay.specs.Beneath.{narrowed, too_tall, narrowed_most, narrowed_fits}
use Rattle.replay.specs.Replay.{reach_fault}
use Rattle.replay.specs.Laws.{Head, or_rest}
use Rattle.replay.specs.Rows.{first_rows, key_rows, then_rows, first_over, keys_over}
use Rattle.rewind.specs.Walk.{start_before}
use Rattle.rewind.specs.Rewind.{rewind_table, rewind_refusal, refused, found, rewound_on, rewound}

-- what a call that the table does not refuse may rest on
pub record Accepted (q : Rules) (end : List ℕ) (steps : ℕ) (popped : List ℕ) (places : ℕ) : Type 0 where
  pub head : Head q steps
  pub kinds : length q.kinds ≡ 64
  pub window : (narrowed q).max_len ≤ 21
  pub end_low : any_over 63 end ≡ false
  pub popped_low : any_over 63 popped ≡ false
  pub stands : too_tall q.beneath (length end) ≡ false
  pub fits : length end ≤ (narrowed q).max_len
  pub enough : 21 ≤ places

pub accepted : (q : Rules) (end : List ℕ) (steps : ℕ) (popped : List ℕ) (places : ℕ) → rewind_refusal q end steps popped places ≡ 0 → Accepted q end steps popped places
unfolding rewind_table
accepted q end steps popped places h =
    let one = passed 0 (reach_fault q.dup_max q.swap_max) _ h in
    let two = passed 1 (ltb 21 q.max_len) _ one.1 in
    let three = passed 2 (ltb 65536 steps) _ two.1 in
    let four = passed 3 (kinds_fault q.kinds) _ three.1 in
    let five = passed 4 (any_over 63 end || any_over 63 popped) _ four.1 in
    let twelve = passed 11 (too_tall q.beneath (length end)) _ five.1 in
    let six = passed 5 (ltb q.max_len (length end)) _ twelve.1 in
    let seven = passed 6 (ltb places 21) 0 six.1 in
    record {
      head = record { reach = one.0; window = two.0; count = three.0; table = four.0 };
      kinds = kinds_length q.kinds four.0;
      window = omega (arith, narrowed_most q, ltb-false 21 q.max_len two.0);
      end_low = or_left (any_over 63 end) (any_over 63 popped) five.0;
      popped_low = or_rest (any_over 63 end) (any_over 63 popped) five.0;
      stands = twelve.0;
      fits = narrowed_fits q (length end) (ltb-false _ _ six.0) twelve.0;
      enough = ltb-false _ _ seven.0;
    }

-- past the rows before 7 the places of the result list decide
pub rewind_rows : (q : Rules) (end : List ℕ) (steps : ℕ) (popped : List ℕ) (places : ℕ) → Head q steps → any_over 63 end ≡ false → any_over 63 popped ≡ false → too_tall q.beneath (length end) ≡ false → length end ≤ q.max_len →
    rewind_refusal q end steps popped places ≡ (7 if ltb places 21 otherwise 0)
unfolding rewind_table
rewind_rows q end steps popped places t e p d f = rw (t.reach, t.window, t.count, t.table, e, p, d, le-ltb q.max_len (length end) f)

-- a call is accepted where no row applies
pub rewind_passes : (q : Rules) (end : List ℕ) (steps : ℕ) (popped : List ℕ) (places : ℕ) → Head q steps → any_over 63 end ≡ false → any_over 63 popped ≡ false → too_tall q.beneath (length end) ≡ false → length end ≤ q.max_len → 21 ≤ places →
    rewind_refusal q end steps popped places ≡ 0
rewind_passes q end steps popped places t e p d f l = rewind_rows q end steps popped places t e p d f ∙ ap (λ (b : Bool). 7 if b otherwise 0) (le-ltb places 21 l)

-- a refused call, and an accepted one
pub rewound_refused : (q : Rules) (end steps popped result : List ℕ) (n : ℕ) → n ≡ rewind_refusal q end (length steps) popped (length result) → (n ≡ 0 → ⊥) → rewound q end steps popped result ≡ refused n result
unfolding rewound_on
rewound_refused q end steps popped result n e h = rw (← e, ne_eqb n 0 h)

pub rewound_accepted : (q : Rules) (end steps popped result : List ℕ) → rewind_refusal q end (length steps) popped (length result) ≡ 0 → rewound q end steps popped result ≡ found (start_before (narrowed q) end steps popped) result
unfolding rewound_on
rewound_accepted q end steps popped result e = rw e

-- the table in parts: the rows that it shares with other tables, and the last
pub rewind_parts : (q : Rules) (end : List ℕ) (steps : ℕ) (popped : List ℕ) (places : ℕ) →
    rewind_refusal q end steps popped places ≡ then_rows (first_rows q (ltb 65536 steps)) (then_rows (key_rows q end popped (ltb q.max_len (length end))) (7 if ltb places 21 otherwise 0))
unfolding rewind_table first_rows key_rows
rewind_parts q end steps popped places =
    rw (
      ← keys_over (any_over 63 end || any_over 63 popped) (too_tall q.beneath (length end)) (ltb q.max_len (length end)) (7 if ltb places 21 otherwise 0),
      ← first_over (reach_fault q.dup_max q.swap_max) (ltb 21 q.max_len) (ltb 65536 steps) (kinds_fault q.kinds) (5 if any_over 63 end || any_over 63 popped otherwise 12 if too_tall q.beneath (length end) otherwise 6 if ltb q.max_len (length end) otherwise 7 if ltb places 21 otherwise 0),
    )
    refl
