-- The shared rows, and the row of 10 where none of them applies.
use Rattle.std.specs.Prelude.{◌≡◌, Err}
use Rattle.std.proofs.Common.{arith}
use Rattle.std.proofs.lemmas.Grind.{common_steps}
use Rattle.star_swap.specs.Check.{shared_row, last_row}
use Rattle.builders.proofs.check.Goals as goal

pub returns-in_err-check_shared : goal.returns-in_err-check_shared
returns-in_err-check_shared c =
    let k : c.from_residual.result ≡ Err c.in_err-check_shared.field-0.0 = grind (arith, common_steps) in
    rw k (shared_row _ _ _ _ _ _ c.in_err-check_shared.ensures)

pub returns-then-not_tail : goal.returns-then-not_tail
returns-then-not_tail c = rw (← c.if-not_tail.ensures) (last_row _ _ _ _ 10 c.in_ok-check_shared.ensures)

pub returns : goal.returns
returns c = rw (← c.if-not_tail.ensures) c.in_ok-check_shared.ensures
