use Rattle.std.proofs.Common.{◌+◌, ◌-◌, ◌*◌}
use Rattle.search.specs.View.{posed}
use Rattle.run.specs.View.{search_of}
use Rattle.run.proofs.Turn.{Pass}
use Rattle.run.proofs.run.Given as goal

abbrev pub invariant-turns : goal.invariant-turns
invariant-turns l = Pass (posed l.question) l.ask l.limits (search_of l.initial.nodes l.initial.list l.initial.at l.initial.held 0) l.nodes l.heads l.list l.at l.held l.count

abbrev pub decreases-turns : goal.decreases-turns
decreases-turns l = l.at.list + 50 * (l.limits.max_expansions - l.count)
