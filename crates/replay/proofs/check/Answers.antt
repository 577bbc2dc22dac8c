-- Row by row: the shared rows, and the one behind them.
use Rattle.std.specs.Prelude.{◌≡◌, refl, Err}
use Rattle.std.proofs.Common.{sym, arith, le-ltb, lt-ltb, ◌∙◌}
use Rattle.std.proofs.lemmas.Grind.{common_steps}
use Rattle.replay.specs.Rows.{row_stops, rows_pass, replay_parts}
use Rattle.replay.proofs.check.Goals.{then-places-lt21-via-then-places-lt21, then-places-lt21-via-else-places-lt21+then-keys-steps}
use Rattle.replay.proofs.check.Goals as goal

pub returns-in_err-check-clause-refusal : goal.returns-in_err-check-clause-refusal
returns-in_err-check-clause-refusal c =
    let k : c.from_residual.result ≡ Err c.in_err-check.field-0.0 = grind (arith, common_steps) in
    rw k (row_stops _ _ _ c.in_err-check.ensures.refusal ∙ sym (replay_parts _ _ _ _ _))

pub returns-in_err-check_keys-clause-refusal : goal.returns-in_err-check_keys-clause-refusal
returns-in_err-check_keys-clause-refusal c =
    let k : c.from_residual-in_err-check_keys.result ≡ Err c.in_err-check_keys.field-0.0 = grind (arith, common_steps) in
    rw k (row_stops _ _ _ c.in_err-check_keys.ensures.refusal ∙ rows_pass _ _ c.in_ok-check.ensures.refusal ∙ sym (replay_parts _ _ _ _ _))

pub returns-then-places-lt21-clause-refusal : goal.returns-then-places-lt21-clause-refusal
returns-then-places-lt21-clause-refusal c =
    let e = c.in_ok-check.ensures.refusal in
    let k = c.in_ok-check_keys.ensures.refusal in
    sym
    (replay_parts _ _ _ _ _ ∙ sym (rows_pass _ _ e) ∙ sym (rows_pass _ _ k)
    ∙ elim c.then-places-lt21.branch [
      | then-places-lt21-via-then-places-lt21 w ↦ rw (lt-ltb _ _ w.if-places-lt21.true) refl
      | then-places-lt21-via-else-places-lt21+then-keys-steps w ↦ rw (le-ltb _ _ w.if-places-lt21.false, lt-ltb _ _ w.if-keys-steps.true) refl
    ])

pub returns-clause-refusal : goal.returns-clause-refusal
returns-clause-refusal c =
    let e = c.in_ok-check.ensures.refusal in
    let k = c.in_ok-check_keys.ensures.refusal in
    sym (replay_parts _ _ _ _ _ ∙ sym (rows_pass _ _ e) ∙ sym (rows_pass _ _ k) ∙ rw (le-ltb _ _ c.if-places-lt21.false, le-ltb _ _ c.if-keys-steps.false) refl)
