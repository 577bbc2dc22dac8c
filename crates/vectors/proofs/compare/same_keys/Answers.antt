use Rattle.std.proofs.Common.{rules}
use Rattle.vectors.proofs.compare.same_keys.Goals as goal

pub returns : goal.returns
returns c = λ h. let all = c.holds.ensures h in record { room = search rules; each = λ k l. let here = all.1.each k 0 l in search rules }
