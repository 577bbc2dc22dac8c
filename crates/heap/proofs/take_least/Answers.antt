use Rattle.std.proofs.Common.{arith, refl}
use Rattle.std.proofs.lemmas.Grind.{common_steps}
use Rattle.heap.specs.Heap.{digit, decode}
use Rattle.heap.proofs.Least.{root_placed, least_taken}
use Rattle.heap.proofs.take_least.Goals as goal

pub fall-requires-clause-below_root : goal.fall-requires-clause-below_root
fall-requires-clause-below_root c = root_placed _ _ _ _ c.requires.heap c.requires.len_nonzero refl

pub returns-clause-len_after : goal.returns-clause-len_after
returns-clause-len_after c = search least_taken

pub returns-clause-result_value : goal.returns-clause-result_value
unfolding digit decode
returns-clause-result_value c = grind (arith, common_steps)
