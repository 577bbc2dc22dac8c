use Rattle.solve.proofs.Laws.{kept_none, sought_none, begun}
use Rattle.solve.proofs.begin.Goals as goal

pub store-nodes-requires-clause-kept : goal.store-nodes-requires-clause-kept
store-nodes-requires-clause-kept c = kept_none _ _ c.requires.heads_nonzero

pub store-nodes-requires-clause-sought : goal.store-nodes-requires-clause-sought
store-nodes-requires-clause-sought c = sought_none _ _

pub returns : goal.returns
returns c = begun _ _ _ _ _ _ _ _ _ c.estimate-f.ensures c.store-nodes.ensures c.push.ensures
