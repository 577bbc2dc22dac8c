-- The shared rows, and the row of 9 where none of them applies.
use Rattle.std.specs.Prelude.{◌≡◌, Err}
use Rattle.std.proofs.Common.{sym, arith}
use Rattle.std.proofs.lemmas.Grind.{common_steps}
use Rattle.star_swap.specs.Check.{taken, shared_row, last_row}
use Rattle.star_swap.proofs.check.Goals as goal

pub returns-in_err-check_shared : goal.returns-in_err-check_shared
returns-in_err-check_shared c =
    let k : c.from_residual.result ≡ Err c.in_err-check_shared.field-0.0 = grind (arith, common_steps) in
    rw k (shared_row _ _ _ _ _ _ c.in_err-check_shared.ensures)

pub not_routable-requires : goal.not_routable-requires
not_routable-requires c =
    let t = (taken _ _ _ _ _ (sym c.in_ok-check_shared.ensures)).0 in
    (omega (arith, t.start_short), omega (arith, t.goal_short))

pub returns-then-not_routable : goal.returns-then-not_routable
returns-then-not_routable c = rw (← c.if-not_routable.ensures) (last_row _ _ _ _ 9 c.in_ok-check_shared.ensures)

pub returns : goal.returns
returns c = rw (← c.if-not_routable.ensures) c.in_ok-check_shared.ensures
