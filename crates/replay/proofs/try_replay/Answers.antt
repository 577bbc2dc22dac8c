-- A refusal by the table; else what the steps come to, and the popped keys where they end.
use Rattle.std.proofs.Common.{sym, ap, arith, ◌∙◌}
use Rattle.std.specs.Prelude.{◌≡◌, ◌≤◌, ℕ, List, Err, length}
use Rattle.std.proofs.lemmas.Grind.{common_steps}
use Rattle.costs.specs.declared.Refusal.{Refusal}
use Rattle.costs.specs.Refusal.{number_of, place_of, never_zero}
use Rattle.window.specs.Keys.{held_keys, held_window}
use Rattle.replay.specs.Machine.{Rules, Outcome, ran_on, highest, popped_on}
use Rattle.replay.specs.Beneath.{narrowed}
use Rattle.replay.specs.Replay.{replay_refusal, no_replay, over, carried, answered, replayed}
use Rattle.replay.specs.Laws.{Accepted, accepted, outcome_refused, outcome_accepted, never_refuses, with_untouched, with_written}
use Rattle.replay.specs.Held.{ended, stepped, replayed_of, mapped}
use Rattle.replay.specs.declared.Replayed.{Replayed}
use Rattle.replay.proofs.try_replay.Goals as goal

-- a refusal by the table
refused : (q : Rules) (start steps result popped : List ℕ) (r : Refusal) → number_of r ≡ replay_refusal q start (length steps) (length result) (length popped) → place_of r ≡ 0 →
    ◌≡◌ {A = Replayed × List ℕ × List ℕ} (no_replay (number_of r) (place_of r), result, popped) (replayed q start steps result popped)
refused q start steps result popped r e z = rw (outcome_refused q start steps (length result) (length popped) (number_of r) e (never_zero r), z)

module _ (q : Rules) (start steps result popped : List ℕ) (e : 0 ≡ replay_refusal q start (length steps) (length result) (length popped)) where
  -- what the call rests on once no number refuses it
  rests : Accepted q start (length steps) (length result) (length popped)
  rests = accepted q start (length steps) (length result) (length popped) (sym e)

  fits : length start ≤ 21
  fits = omega (arith, rests.fits, rests.window)

  module _ (run : Rules) (runs : run ≡ narrowed q) (r : Replayed) (written : List ℕ) (k : ◌≡◌ {A = Replayed × List ℕ} (r, written) (carried run start steps result)) where
    abbrev high : ℕ
    high = highest (narrowed q) steps start

    abbrev keys : List ℕ
    keys = popped_on (narrowed q) steps start

    abbrev o : Outcome
    o = ran_on (narrowed q) 0 steps start

    with : ◌≡◌ {A = Replayed × List ℕ} (r, written) (carried (narrowed q) start steps result)
    with = k ∙ ap (λ (x : Rules). carried x start steps result) runs

    whole : answered high o keys result popped ≡ replayed q start steps result popped
    whole = ap (λ (x : Outcome). answered high x keys result popped) (sym (outcome_accepted q start steps (length result) (length popped) (sym e)))

    -- a step that is not allowed, and steps that end
    stopped : (r.refusal ≡ 0 → ⊥) → ◌≡◌ {A = Replayed × List ℕ × List ℕ} (r, written, popped) (replayed q start steps result popped)
    stopped n = with_untouched high o r result written keys popped (λ m. never_refuses (narrowed q) steps 0 start m) with n ∙ whole

    finished : (new : List ℕ) → r.refusal ≡ 0 → new ≡ over (popped_on run steps start) popped → ◌≡◌ {A = Replayed × List ℕ × List ℕ} (r, written, new) (replayed q start steps result popped)
    finished new z w =
        with_written high o r result written keys popped new (λ m. never_refuses (narrowed q) steps 0 start m) with z (w ∙ ap (λ (x : Rules). over (popped_on x steps start) popped) runs) ∙ whole

pub returns-in_err-check : goal.returns-in_err-check
returns-in_err-check c =
    let k : c.from_residual.result ≡ Err c.in_err-check.field-0.0 = grind (arith, common_steps) in
    rw k (refused _ _ _ _ _ _ c.in_err-check.ensures.refusal c.in_err-check.ensures.index)

pub narrowed-rules-requires : goal.narrowed-rules-requires
narrowed-rules-requires c =
    let a = rests _ _ _ _ _ c.in_ok-check.ensures.refusal in
    (a.window, a.kinds)

pub carry_out-requires : goal.carry_out-requires
carry_out-requires c =
    let e = c.in_ok-check.ensures.refusal in
    let n = c.narrowed-rules.ensures in
    let a = rests _ _ _ _ _ e in
    (a.keys, fits _ _ _ _ _ e, a.places)

pub returns-in_err-end : goal.returns-in_err-end
returns-in_err-end c =
    let e = c.in_ok-check.ensures.refusal in
    let n = c.narrowed-rules.ensures in
    let k : c.from_residual-in_err-end.result ≡ Err c.in_err-end.field-0.0 = grind (arith, common_steps) in
    let m : replayed_of (Err c.in_err-end.field-0.0) ≡ stepped c.carry_out.result = sym (ap replayed_of c.in_err-end.was) ∙ mapped _ _ c.map_err.ensures.cases in
    rw (k, m)
    (stopped _ _ _ _ _ e _ n _ _ c.carry_out.ensures (λ z. never_zero c.in_err-end.field-0.0 (ap (λ (r : Replayed). r.refusal) m ∙ z)))

pub from_ids-requires : goal.from_ids-requires
from_ids-requires c =
    let e = c.in_ok-check.ensures.refusal in
    let n = c.narrowed-rules.ensures in
    ((rests _ _ _ _ _ e).keys, fits _ _ _ _ _ e)

pub write_popped-requires : goal.write_popped-requires
write_popped-requires c =
    let e = c.in_ok-check.ensures.refusal in
    let n = c.narrowed-rules.ensures in
    (held_window _ _ c.from_ids.ensures (fits _ _ _ _ _ e), (rests _ _ _ _ _ e).takes)

pub returns : goal.returns
returns c =
    let e = c.in_ok-check.ensures.refusal in
    let n = c.narrowed-rules.ensures in
    let m : ended c.in_ok-end.end ≡ stepped c.carry_out.result = sym (ap replayed_of c.in_ok-end.was) ∙ mapped _ _ c.map_err.ensures.cases in
    let w = held_keys _ _ c.from_ids.ensures (fits _ _ _ _ _ e) in
    rw m
    (finished _ _ _ _ _ e _ n _ _ c.carry_out.ensures c.write_popped.new.popped (ap (λ (r : Replayed). r.refusal) (sym m)) (c.write_popped.ensures ∙ rw w))
