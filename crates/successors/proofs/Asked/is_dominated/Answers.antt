use Rattle.std.proofs.Common.{◌∙◌, arith, rules, tests}
use Rattle.std.proofs.lemmas.Iterator.{YieldsList-from_range}
use Rattle.std.proofs.lemmas.Iterator.Search.{any_from_yields_List}
use Rattle.successors.specs.Successors.{dup_serves, dominated}
use Rattle.successors.specs.Parts.{some_any}
use Rattle.successors.proofs.Asked.is_dominated.Goals as goal

pub returns : goal.returns
unfolding dominated
returns c =
    let near = c.args.near.now in
    let serves = dup_serves c.args.self.now.prices.now near.w.now c.args.key in
    any_from_yields_List serves _ _ _ c.any.ensures.ran (YieldsList-from_range 0 near.reach near.reach (cc) (omega arith)) (λ x b q k. search (rules, tests))
    ∙ some_any serves near.reach
