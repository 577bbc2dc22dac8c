-- None of the first slots is one.
use Rattle.std.specs.Prelude.{◌||◌, false, not, eqb}
use Rattle.std.proofs.Common.{rules, tests}
use Rattle.std.proofs.lemmas.Iterator.{YieldsList-from_slice}
use Rattle.std.proofs.lemmas.Iterator.Consumers.{fold_from_yields_List}
use Rattle.star_swap.specs.Ended.{ended_of}
use Rattle.star_swap.proofs.Arcs.is_empty.Goals as goal

pub returns : goal.returns
returns c =
    ended_of c.args.self.now c.fold.result
    (fold_from_yields_List _ (λ a s. a || not (eqb s 255)) false c.fold.result c.fold.ensures.ran (YieldsList-from_slice c.args.self.now.head cc) (λ a x r q k. search (rules, tests)))
