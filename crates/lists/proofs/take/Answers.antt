use Rattle.lists.proofs.Queue.{taken_heap}
use Rattle.lists.proofs.take.Goals as goal

pub returns : goal.returns
returns c = search (taken_heap)
