use Rattle.std.specs.Prelude.{refl}
use Rattle.face.specs.Laws.{pushed_in}
use Rattle.face.proofs.push.Goals as goal

pub returns-then-len-open : goal.returns-then-len-open
returns-then-len-open c = pushed_in _ _ _ _ c.if-len-open.true refl
