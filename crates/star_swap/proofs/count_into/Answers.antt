-- Each key below 64 that is passed is counted.
use Rattle.star_swap.specs.Check.{counting_first}
use Rattle.star_swap.proofs.count_into.Goals as goal

pub loop-key-init : goal.loop-key-init
loop-key-init c = rw c.requires.1 (counting_first _)
