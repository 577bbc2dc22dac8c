use Rattle.std.proofs.Common.{rules}
use Rattle.nodes.proofs.Lemmas.{walk_start, walk_next, walk_found, walk_none, fewer_left}
use Rattle.nodes.proofs.find.Goals as goal

pub loop-cur-init : goal.loop-cur-init
loop-cur-init c = search (walk_start)

pub returns-then-has_state : goal.returns-then-has_state
returns-then-has_state c = search (walk_found)

pub loop-cur-preserved : goal.loop-cur-preserved
loop-cur-preserved c = search (walk_next)

pub returns : goal.returns
returns c = search (walk_none)

pub loop-cur-smaller : goal.loop-cur-smaller
loop-cur-smaller c = fewer_left _ _ _ _ (search rules) c.next-cur.ensures
