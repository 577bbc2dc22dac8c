use Rattle.offer.proofs.Offering.{offer_cut, offer_kept, offer_stored}
use Rattle.offer.proofs.offer.Goals as goal

pub returns-then-cut : goal.returns-then-cut
returns-then-cut c = search offer_cut

pub returns-in_default : goal.returns-in_default
returns-in_default c = offer_kept _ _ _ _ _ _ _ _ c.add-g.ensures c.add-f.ensures _ c.cut.ensures c.if-cut.false _ _ c.in_default.ensures c.requires.piled

pub returns : goal.returns
returns c = offer_stored _ _ _ _ _ _ _ _ c.add-g.ensures c.add-f.ensures _ c.cut.ensures c.if-cut.false _ _ _ c.in-Some.ensures _ c.push.ensures
