-- Row by row: the shared rows, and the one behind them.
use Rattle.std.specs.Prelude.{◌≡◌, refl, Err}
use Rattle.std.proofs.Common.{sym, arith, le-ltb, lt-ltb, ◌∙◌}
use Rattle.std.proofs.lemmas.Grind.{common_steps}
use Rattle.replay.specs.Rows.{row_stops, rows_pass}
use Rattle.rewind.specs.Laws.{rewind_parts}
use Rattle.rewind.proofs.check.Goals as goal

pub returns-in_err-check : goal.returns-in_err-check
returns-in_err-check c =
    let k : c.from_residual.result ≡ Err c.in_err-check.field-0.0 = grind (arith, common_steps) in
    rw k (row_stops _ _ _ c.in_err-check.ensures.refusal ∙ sym (rewind_parts _ _ _ _ _))

pub returns-in_err-check_keys : goal.returns-in_err-check_keys
returns-in_err-check_keys c =
    let k : c.from_residual-in_err-check_keys.result ≡ Err c.in_err-check_keys.field-0.0 = grind (arith, common_steps) in
    rw k (row_stops _ _ _ c.in_err-check_keys.ensures.refusal ∙ rows_pass _ _ c.in_ok-check.ensures.refusal ∙ sym (rewind_parts _ _ _ _ _))

pub returns-then-places-lt21 : goal.returns-then-places-lt21
returns-then-places-lt21 c =
    sym
    (rewind_parts _ _ _ _ _ ∙ sym (rows_pass _ _ c.in_ok-check.ensures.refusal) ∙ sym (rows_pass _ _ c.in_ok-check_keys.ensures.refusal) ∙ rw (lt-ltb _ _ c.if-places-lt21.true) refl)

pub returns : goal.returns
returns c =
    sym
    (rewind_parts _ _ _ _ _ ∙ sym (rows_pass _ _ c.in_ok-check.ensures.refusal) ∙ sym (rows_pass _ _ c.in_ok-check_keys.ensures.refusal) ∙ rw (le-ltb _ _ c.if-places-lt21.false) refl)
