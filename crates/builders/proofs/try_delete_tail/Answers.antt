-- A refusal by the table; else delete-tail's plan, over the first places.
use Rattle.std.specs.Prelude.{◌≡◌, Err, refl}
use Rattle.std.proofs.Common.{sym, arith}
use Rattle.std.proofs.lemmas.Grind.{common_steps}
use Rattle.star_swap.specs.Check.{start_window}
use Rattle.builders.specs.TailCode.{tail_refused, tail_given, tail_accepted, tail_own}
use Rattle.builders.proofs.try_delete_tail.Goals as goal

pub returns-in_err-check : goal.returns-in_err-check
returns-in_err-check c =
    let k : c.from_residual.result ≡ Err c.in_err-check.field-0.0 = grind (arith, common_steps) in
    rw k (tail_refused _ _ _ _ _ c.in_err-check.ensures)

pub tail-count-requires : goal.tail-count-requires
tail-count-requires c = let a = tail_accepted _ _ _ _ (sym c.in_ok-check.ensures) in (start_window _ _ _ _ a.0, tail_own _ _ _ a.1, a.0.room)

pub returns : goal.returns
returns c = rw c.tail-count.ensures.given.count (tail_given _ _ _ _ _ _ c.in_ok-check.ensures refl c.tail-count.ensures.given.list)
