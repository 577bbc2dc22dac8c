use Rattle.std.proofs.Common.{arith}
use Rattle.back.proofs.Steps.{writing_first, never_missing, written_on, written_all}
use Rattle.back.proofs.write_steps.Goals as goal

pub loop-i-init : goal.loop-i-init
loop-i-init c = λ from most e. writing_first from _ most _ _ e

pub unwrap-step-requires : goal.unwrap-step-requires
unwrap-step-requires c =
    let t = c.requires.counted in
    never_missing _ _ _ _ _ _ _ _ (c.loop-i.invariant t.0 t.1.0 t.1.1) (omega arith) _ c.parent.ensures

pub loop-i-preserved : goal.loop-i-preserved
loop-i-preserved c = λ from most e. written_on _ _ _ _ _ _ _ _ (c.loop-i.invariant from most e) (omega arith) _ _ _ _ c.parent.ensures c.unwrap-step.ensures c.from.ensures.0

pub returns : goal.returns
returns c = λ from most e. written_all _ _ _ _ _ _ _ _ (c.loop-i.invariant from most e) (omega arith)
