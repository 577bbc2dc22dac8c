use Rattle.lists.proofs.Nodes.{sought}
use Rattle.lists.proofs.find.Goals as goal

pub returns : goal.returns
returns c = search (sought, c.type_inv.nodes)
