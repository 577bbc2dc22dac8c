-- Star-swap's swaps for the keys of the window.
use Rattle.std.specs.Prelude.{◌++◌}
use Rattle.std.proofs.Common.{ap, ◌∙◌}
use Rattle.star_swap.specs.Star.{star_swaps, codes}
use Rattle.builders.specs.Draft.{Draft, routed}
use Rattle.builders.proofs.Work.route.Goals as goal

pub returns : goal.returns
unfolding routed
returns c =
    c.route.ensures ∙ rw c.write-n.ensures.keys (ap (λ (p : Draft). p.steps ++ codes (star_swaps c.args.self.now.window c.args.goal.now)) c.self.view_is)
