use Rattle.std.proofs.Common.{rules}
use Rattle.drained.proofs.Loops.{fill_start}
use Rattle.drained.proofs.fill.Goals as goal

pub loop-i-init : goal.loop-i-init
loop-i-init c = fill_start _ _ c.requires (search rules)
