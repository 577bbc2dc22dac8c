-- The phases behind one another.
use Rattle.std.proofs.Common.{arith}
use Rattle.builders.specs.FillCode.{fit_room}
use Rattle.builders.specs.BuildCode.{built, built_none, dup_untrimmed, dup_unfilled, dup_finished}
use Rattle.builders.proofs.dup_and_star.Goals as goal

pub trim-requires : goal.trim-requires
trim-requires c = (rw c.begin-work.ensures (record { few = omega (arith, c.requires.0.short) }), c.requires.1)

pub returns-in_err-trim : goal.returns-in_err-trim
returns-in_err-trim c = rw c.from_residual.ensures (built_none _ _ (dup_untrimmed _ _ _ (rw c.begin-work.ensures at c.in_err-trim.ensures.trimmed)))

pub fill-requires : goal.fill-requires
fill-requires c = (fit_room _ c.in_ok-trim.ensures.fit, c.requires.1)

pub returns-in_err-fill : goal.returns-in_err-fill
returns-in_err-fill c = rw c.from_residual-in_err-fill.ensures (built_none _ _ (dup_unfilled _ _ _ _ (rw c.begin-work.ensures at c.in_ok-trim.ensures.trimmed) c.in_err-fill.ensures.filled))

pub returns-in_err-finish : goal.returns-in_err-finish
returns-in_err-finish c =
    rw c.from_residual-in_err-finish.ensures
    (built_none _ _ (dup_finished _ _ _ _ (rw c.begin-work.ensures at c.in_ok-trim.ensures.trimmed) _ _ c.in_ok-fill.ensures.filled c.in_err-finish.ensures))

pub returns : goal.returns
returns c =
    built _ _ _ _ _
    (dup_finished _ _ _ _ (rw c.begin-work.ensures at c.in_ok-trim.ensures.trimmed) _ _ c.in_ok-fill.ensures.filled c.in_ok-finish.ensures)
    c.give.ensures.given c.give.ensures.few
