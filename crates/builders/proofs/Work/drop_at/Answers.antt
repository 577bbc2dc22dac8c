-- Up by a Swap, unless it stands on top, and off by a Pop.
use Rattle.std.proofs.Common.{ap, arith, ◌∙◌}
use Rattle.builders.specs.Draft.{does}
use Rattle.costs.specs.declared.Step.TheVariants.{Pop}
use Rattle.builders.specs.Work.{acted}
use Rattle.builders.specs.TrimCode.{drop_top, drop_deep}
use Rattle.builders.proofs.Work.drop_at.Goals as goal
use Rattle.builders.proofs.Work.drop_at.Goals.{then-d-gt0, else-d-gt0}

pub act-requires-2 : goal.act-requires-2
act-requires-2 c =
    let f = c.requires.0.few in
    elim c.if-d-gt0.branch [
      | then-d-gt0 w ↦ let a = acted _ _ _ w.act.ensures in rw w.self-is (omega (arith, a.0), omega (arith, a.1))
      | else-d-gt0 w ↦ rw w.self-is (omega arith, omega arith)
    ]

pub returns : goal.returns
returns c =
    elim c.if-d-gt0.branch [
      | then-d-gt0 w ↦ drop_deep _ _ c.requires.0 c.requires.1 _ _ w.if-d-gt0.true w.act.ensures (c.act-2.ensures ∙ ap (does Pop) w.self-is)
      | else-d-gt0 w ↦ drop_top _ _ c.requires.0 c.requires.1 _ (omega (arith, w.if-d-gt0.false)) (c.act-2.ensures ∙ ap (does Pop) w.self-is)
    ]
