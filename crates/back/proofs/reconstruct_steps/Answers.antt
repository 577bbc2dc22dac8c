use Rattle.std.proofs.Common.{[], refl, sym, suc}
use Rattle.window.specs.State.{whole}
use Rattle.back.proofs.Laws.{no_plan}
use Rattle.back.proofs.reconstruct_steps.Goals as goal

pub returns-in_err-k : goal.returns-in_err-k
returns-in_err-k c = rw c.from_residual.ensures (no_plan _ _ _ (suc c.args.most) (whole c.args.goal) 0 [] (sym c.in_err-k.ensures.count_is), refl)
