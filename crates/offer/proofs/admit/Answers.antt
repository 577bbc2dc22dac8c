use Rattle.offer.proofs.Offering.{all_inside}
use Rattle.offer.proofs.admit.Goals as goal

pub cheaper-requires : goal.cheaper-requires
cheaper-requires c = search all_inside
