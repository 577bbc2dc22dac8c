-- Star-swap finishes, or refuses.
use Rattle.std.proofs.Common.{arith}
use Rattle.builders.specs.BuildCode.{finish_can, finish_yes, finish_no}
use Rattle.builders.proofs.Work.finish.Goals as goal

pub returns-then-not_routable : goal.returns-then-not_routable
returns-then-not_routable c = finish_no _ _ _ (rw c.write-n.ensures.keys at c.if-not_routable.ensures)

pub route-requires : goal.route-requires
route-requires c =
    let w = c.write-n.ensures.window in
    (finish_can _ _ c.args.self.now w c.requires.1 (rw c.write-n.ensures.keys at c.if-not_routable.ensures), omega (arith, w.short, c.requires.0.few))

pub returns : goal.returns
returns c = finish_yes _ _ _ _ (rw c.write-n.ensures.keys at c.if-not_routable.ensures) c.route.ensures
