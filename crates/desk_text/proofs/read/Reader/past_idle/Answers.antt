use Rattle.std.proofs.Common.{rules, refl}
use Rattle.desk_text.proofs.Reading.{zeros_idle}
use Rattle.desk_text.proofs.read.Reader.past_idle.Goals as goal

pub returns-then-eq : goal.returns-then-eq
returns-then-eq c = zeros_idle _ _ _ _ (search rules) (search rules) c.leading_zeros.ensures.zeros refl
