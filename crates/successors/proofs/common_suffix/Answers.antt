use Rattle.std.specs.Prelude.{ℕ, reverse, eqb}
use Rattle.std.specs.List.{zip}
use Rattle.std.proofs.Common.{◌∙◌, rules, tests}
use Rattle.std.proofs.lemmas.Iterator.{YieldsList-from_zip}
use Rattle.std.proofs.lemmas.Iterator.Adapters.{YieldsList-from_rev_slice}
use Rattle.std.proofs.lemmas.Iterator.Consumers.{count_from_yields_List, YieldsList-at}
use Rattle.std.proofs.lemmas.Iterator.Search.{YieldsList-from_take_while}
use Rattle.std.proofs.lemmas.List.Folds.{length-prefix_len}
use Rattle.successors.specs.Suffix.{common_prefix}
use Rattle.successors.proofs.common_suffix.Goals as goal

pub returns : goal.returns
returns c =
    let same = λ (p : ℕ × ℕ). eqb p.0 p.1 in
    count_from_yields_List _ _ c.count.ensures.ran
    (YieldsList-from_take_while _ same
    (YieldsList-at c.take_while.ensures.source
    (YieldsList-from_zip
    (YieldsList-at c.zip.ensures.first (YieldsList-from_rev_slice c.args.a.now cc))
    (YieldsList-at c.zip.ensures.second (YieldsList-from_rev_slice c.args.b.now cc))))
    c.take_while.ensures.closure c.take_while.ensures.done (λ x b q k. search (rules, tests)))
    ∙ length-prefix_len same (zip (reverse c.args.a.now) (reverse c.args.b.now))
    ∙ common_prefix (reverse c.args.a.now) (reverse c.args.b.now)
