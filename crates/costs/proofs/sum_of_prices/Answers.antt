-- One entry more is added.
use Rattle.std.proofs.Common.{◌≡◌, refl}
use Rattle.std.proofs.lemmas.List.{at_drop_more}
use Rattle.std.specs.List.{fold}
use Rattle.costs.specs.Sum.{add_price}
use Rattle.costs.proofs.sum_of_prices.Goals as goal

pub loop-entry-preserved : goal.loop-entry-preserved
loop-entry-preserved g c = λ f h.
    let l = c.loop-entry in
    let add = add_price c.args.prices.now f in
    let here : c.step.result ≡ f c.entry-item.result = h c.entry-item.result c.step.result (record { shown = _; shows = refl; says = record { met = c.step.ensures } }) in
    let turn = at_drop_more (fold add l.sum) c.args.list.now l.entry-index c.entry-item.result c.loop-entry-test.true in
    let e = c.entry-item.is in
    let i = l.invariant f h in
    cc
