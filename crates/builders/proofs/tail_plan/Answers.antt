-- None, or delete-tail's plan.
use Rattle.std.specs.Prelude.{refl}
use Rattle.std.proofs.Common.{sym}
use Rattle.builders.specs.BuildCode.{built, built_none}
use Rattle.builders.specs.Tail.{tail_plan}
use Rattle.builders.specs.TailCode.{tail_fits, tail_own}
use Rattle.builders.proofs.tail_plan.Goals as goal

pub tail-requires : goal.tail-requires
tail-requires c = (c.requires.0, tail_own _ _ _ (tail_fits _ _ _ (sym c.if-not_tail.ensures) c.requires.0.short c.requires.1.keys), c.requires.2)

pub returns-then-not_tail : goal.returns-then-not_tail
unfolding tail_plan
returns-then-not_tail c = built_none _ _ (rw (← c.if-not_tail.ensures) refl)

pub returns : goal.returns
unfolding tail_plan
returns c = built _ _ _ _ _ (rw (← c.if-not_tail.ensures) refl) c.tail.ensures.given c.tail.ensures.few
