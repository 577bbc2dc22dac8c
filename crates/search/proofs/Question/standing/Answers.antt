use Rattle.search.proofs.Laws.{asking}
use Rattle.search.proofs.Question.standing.Goals as goal

pub standing-requires : goal.standing-requires
standing-requires c = (c.requires.0, c.requires.1, (_, asking c.args.self.now))

pub returns : goal.returns
returns c = c.standing.ensures _ _ (asking c.args.self.now) c.args.self.now.ready.least
