use Rattle.std.specs.Prelude.{◌≡◌, ◌-◌}
use Rattle.std.proofs.Common.{arith, sym}
use Rattle.heuristic.specs.LeastDup.{none_taken}
use Rattle.heuristic.proofs.least_dup.Goals as goal

pub loop-p-init : goal.loop-p-init
loop-p-init c = let z : c.args.dup_max - c.args.dup_max ≡ 0 = omega arith in rw z (sym (none_taken _ _))
