use Rattle.std.specs.Prelude.{◌≡◌, ◌||◌, ◌+◌, ◌∷◌, drop}
use Rattle.std.proofs.Common.{add-one, drop-cons, ap, ◌∙◌}
use Rattle.std.specs.List.{fold}
use Rattle.costs.proofs.any_entry.Goals as goal

pub loop-entry-preserved : goal.loop-entry-preserved
loop-entry-preserved g c =
    let l = c.loop-entry in
    let e : c.test-any.result ≡ g.f c.entry-item.result = (c.requires.1.1 c.entry-item.result).1 _ c.test-any.ensures in
    let d : drop l.entry-index c.args.list.now ≡ (c.entry-item.result ∷ drop (l.entry-index + 1) c.args.list.now) =
    drop-cons c.args.list.now l.entry-index c.entry-item.result c.loop-entry-test.true ∙ rw (add-one, ← c.entry-item.is) in
    l.invariant ∙ ap (fold (λ any x. any || g.f x) l.any) d ∙ rw e
