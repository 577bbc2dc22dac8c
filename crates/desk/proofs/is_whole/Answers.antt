use Rattle.std.proofs.Common.{inr}
use Rattle.desk.proofs.is_whole.Goals as goal

pub returns-else-is_empty-clause-whole : goal.returns-else-is_empty-clause-whole
returns-else-is_empty-clause-whole c t = inr (λ _. c.is_settled.ensures t)
