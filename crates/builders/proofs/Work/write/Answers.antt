-- The keys of a packed window.
use Rattle.std.proofs.Common.{arith}
use Rattle.window.specs.Keys.{keys_length}
use Rattle.builders.specs.TrimCode.{packed_window}
use Rattle.builders.proofs.Work.write.Goals as goal

pub write-requires : goal.write-requires
write-requires c = (c.self.invariant, omega (arith, keys_length c.self.inside.state))

pub returns-clause-window : goal.returns-clause-window
returns-clause-window c = rw (← c.self.view_is) (packed_window _ c.self.invariant)
