-- A refusal by the table; else the walk back, whose start is written, or 11.
use Rattle.std.proofs.Common.{sym, ap, arith, subst, ◌∙◌}
use Rattle.std.proofs.lemmas.Grind.{common_steps}
use Rattle.std.specs.Prelude.{◌≡◌, ◌≤◌, ℕ, List, Option, Some, None, Result, Err, IfSome, length}
use Rattle.std.specs.Option.{option_map, ok_or}
use Rattle.std.specs.Result.{result_ok}
use Rattle.costs.specs.declared.Refusal.{Refusal}
use Rattle.costs.specs.declared.Refusal.TheVariants.{Start}
use Rattle.costs.specs.Refusal.{number_of, never_zero, refusal_of}
use Rattle.window.specs.declared.PackedState.{PackedState}
use Rattle.window.specs.State.{Held}
use Rattle.window.specs.Laws.{keys_of_lem}
use Rattle.window.specs.Keys.{keys_of, Window, keys_length, held_keys, held_window}
use Rattle.replay.specs.Machine.{Rules}
use Rattle.replay.specs.Beneath.{narrowed}
use Rattle.rewind.specs.Walk.{start_before}
use Rattle.rewind.specs.Rewind.{rewind_refusal, found, rewound}
use Rattle.rewind.specs.Laws.{Accepted, accepted, rewound_refused, rewound_accepted}
use Rattle.rewind.proofs.try_rewind.Goals as goal

module _ (q : Rules) (end steps popped result : List ℕ) (e : 0 ≡ rewind_refusal q end (length steps) popped (length result)) where
  -- what the call rests on once no number of the table refuses it
  rests : Accepted q end (length steps) popped (length result)
  rests = accepted q end (length steps) popped (length result) (sym e)

  fits : length end ≤ 21
  fits = omega (arith, rests.fits, rests.window)

  -- the answer is what the walk found
  answer : (run : Rules) (s : PackedState) (o : Option PackedState) → run ≡ narrowed q → Held 6 s end → option_map keys_of o ≡ start_before run (keys_of s) steps popped → rewound q end steps popped result ≡ found (option_map keys_of o) result
  answer run s o runs h k =
      rewound_accepted q end steps popped result (sym e)
      ∙ ap (λ (x : Option (List ℕ)). found x result)
      (ap (λ (w : List ℕ). start_before (narrowed q) w steps popped) (sym (held_keys s end h fits))
      ∙ ap (λ (x : Rules). start_before x (keys_of s) steps popped) (sym runs)
      ∙ sym k)

pub returns-in_err-check : goal.returns-in_err-check
returns-in_err-check c =
    let k : c.from_residual.result ≡ Err c.in_err-check.field-0.0 = grind (arith, common_steps) in
    rw k (sym (rewound_refused _ _ _ _ _ _ c.in_err-check.ensures (never_zero c.in_err-check.field-0.0)))

pub from_ids-requires : goal.from_ids-requires
from_ids-requires c =
    (keys_of_lem 6 c.args.end.now (rests _ _ _ _ _ c.in_ok-check.ensures).end_low, fits _ _ _ _ _ c.in_ok-check.ensures)

pub narrowed-rules-requires : goal.narrowed-rules-requires
narrowed-rules-requires c =
    let a = rests _ _ _ _ _ c.in_ok-check.ensures in
    (a.window, a.kinds)

pub invariant_of-end : goal.invariant_of-end
invariant_of-end c =
    record {
      held = held_window _ _ c.from_ids.ensures (fits _ _ _ _ _ c.in_ok-check.ensures);
      keyed = keys_of_lem 6 c.args.popped.now (rests _ _ _ _ _ c.in_ok-check.ensures).popped_low;
    }

pub write-requires : goal.write-requires
write-requires c =
    let a = rests _ _ _ _ _ c.in_ok-check.ensures in
    let s : c.walk_back.result ≡ Some c.in_ok-start.start = c.ok_or.ensures.ok_part ∙ ap result_ok c.in_ok-start.was in
    (subst (λ (o : Option PackedState). IfSome o Window) s c.walk_back.ensures.window, omega (arith, keys_length c.in_ok-start.start, a.enough))

pub returns-in_err-start : goal.returns-in_err-start
returns-in_err-start c =
    let k : c.from_residual-in_err-start.result ≡ Err c.in_err-start.field-0.0 = grind (arith, common_steps) in
    let s : c.walk_back.result ≡ None = c.ok_or.ensures.ok_part ∙ ap result_ok c.in_err-start.was in
    let r : ◌≡◌ {A = Result PackedState Refusal} (Err c.in_err-start.field-0.0) (Err Start) = sym c.in_err-start.was ∙ c.ok_or.ensures.value ∙ ap (λ (o : Option PackedState). ok_or o Start) s in
    let f = answer _ _ _ _ _ c.in_ok-check.ensures _ _ _ c.narrowed-rules.ensures c.from_ids.ensures c.walk_back.ensures.start in
    let m : number_of c.in_err-start.field-0.0 ≡ 11 = ap refusal_of r in
    rw (k, m) (sym (f ∙ rw s))

pub returns : goal.returns
returns c =
    let s : c.walk_back.result ≡ Some c.in_ok-start.start = c.ok_or.ensures.ok_part ∙ ap result_ok c.in_ok-start.was in
    let f = answer _ _ _ _ _ c.in_ok-check.ensures _ _ _ c.narrowed-rules.ensures c.from_ids.ensures c.walk_back.ensures.start in
    rw (c.write.ensures.0, c.write.ensures.1) (sym (f ∙ rw s))
