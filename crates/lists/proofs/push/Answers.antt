use Rattle.lists.proofs.Queue.{pushed_heap}
use Rattle.lists.proofs.push.Goals as goal

pub returns : goal.returns
returns c = search (pushed_heap)
