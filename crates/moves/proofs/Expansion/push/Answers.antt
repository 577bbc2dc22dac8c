use Rattle.std.proofs.Common.{arith}
use Rattle.moves.specs.Told.{told_push}
use Rattle.moves.proofs.Expansion.push.Goals as goal

pub returns : goal.returns
returns c = λ goal dup_max p.
    told_push _ _ _ _ _ _ goal dup_max p _ _ _ _ _ c.requires.2 c.requires.1 (c.push.ensures _ p.window) (c.after_push-gas.ensures _ goal p.standing (omega (arith, p.short, c.requires.1))) c.to.ensures
