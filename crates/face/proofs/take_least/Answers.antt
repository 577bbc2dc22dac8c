-- Where there is an entry, the least of them is removed.
use Rattle.std.proofs.Common.{sym, ◌∙◌}
use Rattle.face.proofs.Head.{took}
use Rattle.face.proofs.take_least.Goals as goal

pub returns : goal.returns
returns c = took c.args.open.now c.remove_least.new.open c.args.len c.remove_least.result (sym c.is_held.ensures ∙ c.if-not-is_held.false) c.remove_least.ensures
