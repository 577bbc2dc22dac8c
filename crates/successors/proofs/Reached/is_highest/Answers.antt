use Rattle.std.proofs.Common.{◌∙◌, arith}
use Rattle.successors.specs.Places.{first_here}
use Rattle.successors.proofs.Reached.is_highest.Goals as goal

pub returns : goal.returns
returns c =
    let s = c.args.self.now in
    c.eq.ensures ∙ first_here s.first s.w.now s.reach s.placed s.within c.args.p c.requires (s.keyed.fit c.args.p (omega (arith, s.within)))
