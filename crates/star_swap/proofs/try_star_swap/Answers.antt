-- A refusal by the table; else the swaps, over the first places.
use Rattle.std.specs.Prelude.{◌≡◌, Err}
use Rattle.std.proofs.Common.{arith}
use Rattle.std.proofs.lemmas.Grind.{common_steps}
use Rattle.star_swap.specs.Call.{swap_refused, swap_given, swap_pair, swap_places}
use Rattle.star_swap.proofs.try_star_swap.Goals as goal

pub returns-in_err-check : goal.returns-in_err-check
returns-in_err-check c =
    let k : c.from_residual.result ≡ Err c.in_err-check.field-0.0 = grind (arith, common_steps) in
    rw k (swap_refused _ _ _ _ _ c.in_err-check.ensures)

pub star-requires : goal.star-requires
star-requires c = record {
  pair = swap_pair _ _ _ _ c.in_ok-check.ensures;
  start_in_bounds = omega (arith, swap_places _ _ _ _ c.in_ok-check.ensures);
}

pub returns : goal.returns
returns c = swap_given _ _ _ _ _ _ c.in_ok-check.ensures c.star.ensures
