-- Row by row: the shared rows, row 4 of the prices between them, and the last.
use Rattle.std.specs.Prelude.{◌≡◌, refl, Err}
use Rattle.std.proofs.Common.{sym, ap, arith, ◌∙◌}
use Rattle.std.proofs.lemmas.Grind.{common_steps}
use Rattle.replay.specs.Rows.{given_by, first_rows, key_rows, row_stops, rows_pass}
use Rattle.planner.specs.Refusal.{asked, allowances, lent, plan_parts}
use Rattle.planner.proofs.check.Goals as goal

pub returns-in_err-check : goal.returns-in_err-check
returns-in_err-check c =
    let k : c.from_residual.result ≡ Err c.in_err-check.field-0.0 = grind (arith, common_steps) in
    rw k (row_stops _ _ _ (c.in_err-check.ensures.refusal ∙ ap (first_rows (given_by c.args.given)) c.allowance_fault.ensures) ∙ sym (plan_parts _ _))

pub returns-then-prices_fault : goal.returns-then-prices_fault
returns-then-prices_fault c =
    let e = c.in_ok-check.ensures.refusal ∙ ap (first_rows (given_by c.args.given)) c.allowance_fault.ensures in
    sym (plan_parts _ _ ∙ sym (rows_pass _ _ e) ∙ rw (← c.prices_fault.ensures, c.if-prices_fault.true) refl)

pub returns-in_err-check_keys : goal.returns-in_err-check_keys
returns-in_err-check_keys c =
    let q = given_by c.args.given in
    let k : c.from_residual-in_err-check_keys.result ≡ Err c.in_err-check_keys.field-0.0 = grind (arith, common_steps) in
    let e = c.in_ok-check.ensures.refusal ∙ ap (first_rows q) c.allowance_fault.ensures in
    let f = c.in_err-check_keys.ensures.refusal ∙ ap (key_rows q c.args.start.now c.args.goal.now) c.too_long.ensures in
    let p = plan_parts (asked q c.args.prices.now c.args.start.now c.args.goal.now (allowances c.args.a.max_expansions c.args.a.states_without c.args.a.states_with)) (lent c.args.l.steps c.args.l.nodes c.args.l.heads c.args.l.list) in
    rw k (sym (p ∙ sym (rows_pass _ _ e) ∙ rw (← c.prices_fault.ensures, c.if-prices_fault.false) (sym (row_stops c.in_err-check_keys.field-0.0 _ _ f))))

pub returns-then-short_lists : goal.returns-then-short_lists
returns-then-short_lists c =
    let q = given_by c.args.given in
    let e = c.in_ok-check.ensures.refusal ∙ ap (first_rows q) c.allowance_fault.ensures in
    let f = c.in_ok-check_keys.ensures.refusal ∙ ap (key_rows q c.args.start.now c.args.goal.now) c.too_long.ensures in
    sym (plan_parts _ _ ∙ sym (rows_pass _ _ e) ∙ rw (← c.prices_fault.ensures, c.if-prices_fault.false) (sym (rows_pass _ _ f) ∙ rw (← c.short_lists.ensures, c.if-short_lists.true) refl))

pub returns : goal.returns
returns c =
    let q = given_by c.args.given in
    let e = c.in_ok-check.ensures.refusal ∙ ap (first_rows q) c.allowance_fault.ensures in
    let f = c.in_ok-check_keys.ensures.refusal ∙ ap (key_rows q c.args.start.now c.args.goal.now) c.too_long.ensures in
    sym (plan_parts _ _ ∙ sym (rows_pass _ _ e) ∙ rw (← c.prices_fault.ensures, c.if-prices_fault.false) (sym (rows_pass _ _ f) ∙ rw (← c.short_lists.ensures, c.if-short_lists.false) refl))
