use Rattle.std.specs.Prelude.{false}
use Rattle.std.proofs.Common.{◌∙◌}
use Rattle.costs.specs.Laws.{any_over_fold}
use Rattle.costs.proofs.any_over.Goals as goal

pub returns : goal.returns
returns c = c.any_entry.ensures ∙ any_over_fold c.args.limit false c.args.list.now
