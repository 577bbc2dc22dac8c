use Rattle.nodes.proofs.Lemmas.{wrote_row, inserted_chained}
use Rattle.nodes.proofs.insert.Goals as goal

pub returns : goal.returns
returns c = search (wrote_row, inserted_chained)
