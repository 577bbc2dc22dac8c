-- Row by row: the shared rows, and row 4 of the prices between them.
use Rattle.std.specs.Prelude.{◌≡◌, ◌||◌, refl, Err, ltb, length}
use Rattle.std.proofs.Common.{sym, ap, arith, lt-ltb, le-ltb, ◌∙◌}
use Rattle.std.proofs.lemmas.Grind.{common_steps}
use Rattle.replay.specs.Rows.{given_by, key_rows, row_stops, rows_pass}
use Rattle.marking.specs.Laws.{mark_parts}
use Rattle.marking.proofs.check.Goals.{then-most-start, else-most-start}
use Rattle.marking.proofs.check.Goals as goal

pub returns-in_err-check-clause-refusal : goal.returns-in_err-check-clause-refusal
returns-in_err-check-clause-refusal c =
    let k : c.from_residual.result ≡ Err c.in_err-check.field-0.0 = grind (arith, common_steps) in
    rw k (row_stops _ _ _ c.in_err-check.ensures.refusal ∙ sym (mark_parts _ _ _ _ _))

pub returns-then-prices_fault-clause-refusal : goal.returns-then-prices_fault-clause-refusal
returns-then-prices_fault-clause-refusal c = sym (mark_parts _ _ _ _ _ ∙ sym (rows_pass _ _ c.in_ok-check.ensures.refusal) ∙ rw (← c.prices_fault.ensures, c.if-prices_fault.true) refl)

pub returns-clause-refusal : goal.returns-clause-refusal
returns-clause-refusal c =
    let q = given_by c.args.given in
    let b : c.if-most-start.check_keys ≡ (ltb q.max_len (length c.args.start.now) || ltb q.max_len (length c.args.goal.now)) = elim c.if-most-start.branch [
      | then-most-start w ↦ w.check_keys-is ∙ rw (lt-ltb _ _ w.if-most-start.true) refl
      | else-most-start w ↦ w.check_keys-is ∙ rw (le-ltb _ _ w.if-most-start.false) refl
    ] in
    c.check_keys.ensures.refusal ∙ ap (key_rows q c.args.start.now c.args.goal.now) b
    ∙ sym (mark_parts _ _ _ _ _ ∙ sym (rows_pass _ _ c.in_ok-check.ensures.refusal) ∙ rw (← c.prices_fault.ensures, c.if-prices_fault.false) refl)
