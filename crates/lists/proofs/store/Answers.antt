use Rattle.lists.specs.View.{Sought}
use Rattle.lists.proofs.Nodes.{stored_insert, stored_update, there_lt, there_state}
use Rattle.lists.proofs.store.Goals as goal

pub update-requires-clause-i_lt_n : goal.update-requires-clause-i_lt_n
update-requires-clause-i_lt_n c = search there_lt

pub update-requires-clause-same_state : goal.update-requires-clause-same_state
update-requires-clause-same_state c = rw c.from-row.ensures.1 (there_state _ _ _ _ _ c.in-Some.is c.requires.sought)

pub returns-in-Some : goal.returns-in-Some
returns-in-Some c =
    let sought : Sought c.args.nodes.now c.args.n c.from-row.result.state c.args.at = rw c.from-row.ensures.1 c.requires.sought in
    rw (← c.from-row.ensures.0) (search stored_update)

pub returns-in-None : goal.returns-in-None
returns-in-None c =
    let sought : Sought c.args.nodes.now c.args.n c.from-row.result.state c.args.at = rw c.from-row.ensures.1 c.requires.sought in
    rw (← c.from-row.ensures.0) (search stored_insert)
