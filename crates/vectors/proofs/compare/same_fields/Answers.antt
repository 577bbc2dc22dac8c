use Rattle.std.proofs.Common.{rules}
use Rattle.vectors.proofs.compare.same_fields.Goals as goal

pub returns : goal.returns
returns c = λ h k l. let all = c.holds.ensures h in let here = all.1.each k 0 (search rules) in search rules
