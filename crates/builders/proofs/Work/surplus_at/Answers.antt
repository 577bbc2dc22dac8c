-- Counts in two arrays are those of the window.
use Rattle.std.specs.Prelude.{get_or, ltb, take}
use Rattle.std.proofs.Common.{rules, tests}
use Rattle.std.proofs.lemmas.Iterator.{YieldsList-from_slice}
use Rattle.std.proofs.lemmas.Iterator.Adapters.{serves_from_places}
use Rattle.std.proofs.lemmas.Iterator.Search.{position_from_yields_List}
use Rattle.builders.specs.TrimCode.{item_low, seen}
use Rattle.builders.proofs.Work.surplus_at.Goals as goal

pub position-requires-clause-callable : goal.position-requires-clause-callable
position-requires-clause-callable c =
    serves_from_places (YieldsList-from_slice (take c.write-n.result c.write-n.new.room) cc) (λ x q h. search (rules, tests)) (λ x k l e.
    let low = item_low _ _ _ k c.write-n.ensures.window c.write-n.ensures.keys l e in
    (λ _ _ _ _ _ _. low, λ _ _ _ _ _ _ _ _ _. low))

pub returns-clause-place : goal.returns-clause-place
returns-clause-place c =
    seen _ _ _ (take c.write-n.result c.write-n.new.room) _ c.write-n.ensures.window c.count_into.ensures c.write-n.ensures.keys
    (position_from_yields_List (λ k. ltb (get_or c.args.wanted.now k 0) (get_or c.count_into.new.a k 0)) _ _ _ c.position.ensures.ran (YieldsList-from_slice (take c.write-n.result c.write-n.new.room) cc) (λ x b q k. search (rules, tests)))
