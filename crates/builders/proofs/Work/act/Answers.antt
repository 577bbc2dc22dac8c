-- The step behind the others, and the window after it.
use Rattle.builders.specs.Draft.{does}
use Rattle.builders.proofs.Work.act.Goals as goal

pub returns : goal.returns
unfolding does
returns c = rw (← c.self.view_is, c.moved-self-inside.ensures.1, c.push.ensures.items, c.from.ensures.0)
