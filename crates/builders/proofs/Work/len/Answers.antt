-- A window has at most 21 keys.
use Rattle.std.proofs.Common.{arith}
use Rattle.window.specs.Keys.{keys_length}
use Rattle.builders.proofs.Work.len.Goals as goal

pub returns-clause-fits : goal.returns-clause-fits
returns-clause-fits c = omega (arith, c.len.ensures _ c.self.invariant, keys_length c.self.inside.state)
