-- Each key below 64 that is passed is counted.
use Rattle.star_swap.specs.Check.{Counting}
use Rattle.star_swap.proofs.count_into.Given as goal

abbrev pub invariant-loop-key : goal.invariant-loop-key
invariant-loop-key l = Counting l.w l.a l.key-index
