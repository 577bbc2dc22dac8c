use Rattle.std.specs.Prelude.{◌≡◌, ◌+◌, ◌-◌}
use Rattle.std.proofs.Common.{arith}
use Rattle.heuristic.specs.LeastDup.{next_taken, least_taken}
use Rattle.heuristic.proofs.take_dup.Goals as goal

-- so many Dups are deeper than p
pub returns : goal.returns
returns c =
    let a = c.args in
    let deeper = a.dup_max - 1 - a.p in
    let this : a.dup_max - 1 - deeper ≡ a.p = omega arith in
    let on : deeper + 1 ≡ a.dup_max - a.p = omega arith in
    let next = rw on at (next_taken a.prices.now a.dup_max deeper a.in_hand _ _ c.requires.in_hand_value (rw this c.gas_of.ensures) c.min.ensures) in
    let known = c.type_inv.prices in record {
      value = next;
      least_taken = rw next (least_taken _ _ (λ n. omega (arith, known n)) _ (omega arith));
    }
