use Rattle.std.proofs.Common.{rules}
use Rattle.vectors.proofs.rooms.load_steps.Goals as goal

pub returns : goal.returns
returns c = record { long = c.fill.ensures.long; each = λ k none l. let here = c.fill.ensures.each k none l in search rules }
