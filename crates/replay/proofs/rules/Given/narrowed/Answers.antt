-- The rules are those of the call, narrowed.
use Rattle.std.proofs.Common.{subst, sym}
use Rattle.std.specs.Prelude.{◌≤◌}
use Rattle.replay.specs.Machine.{Rules}
use Rattle.replay.proofs.rules.Given.narrowed.Goals as goal

pub invariant_of-result : goal.invariant_of-result
invariant_of-result c = record { short = subst (λ (r : Rules). r.max_len ≤ 21) (sym (c.narrowed.ensures c.args.self.kinds.now)) c.requires.0; keyed = c.requires.1 }

pub returns : goal.returns
returns c = c.narrowed.ensures c.args.self.kinds.now
