use Rattle.std.proofs.Common.{◌∙◌}
use Rattle.successors.specs.Places.{in_reach}
use Rattle.successors.specs.Successors.{reached}
use Rattle.successors.proofs.Reached.has.Goals as goal

pub returns : goal.returns
unfolding reached
returns c =
    let s = c.args.self.now in
    c.is_some.ensures ∙ in_reach s.first s.w.now s.reach s.placed s.within c.args.key c.requires
