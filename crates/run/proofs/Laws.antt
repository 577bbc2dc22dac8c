-- What of a run does not look at the start and the goal; and costs that are the same.
use Rattle.std.proofs.Common.{◌≡◌, ◌≢◌, refl, sym, ap, ◌∙◌, true, false, List, [], ◌∷◌, ℕ, arith}
use Rattle.std.proofs.lemmas.Bool.Decides.{nat_tests}
use Rattle.costs.specs.declared.Cost.{Cost}
use Rattle.costs.specs.Packed.{cost_of}
use Rattle.algebra.specs.GasBytes.{gas_bytes}
use Rattle.astar.specs.Cost.{same}
use Rattle.astar.specs.Search.{Succ, Work, Hand, offer, offers}
use Rattle.lists.proofs.Queue.{cost_le}
use Rattle.offer.specs.Rules.{Rules, coded}
use Rattle.offer.proofs.Laws.{offer_any}

pub same_true : (a b : ℕ) → a ≡ b → same gas_bytes (cost_of a) (cost_of b) ≡ true
same_true a b e = rw (cost_le a b, cost_le b a) (grind (arith, nat_tests))

pub same_false : (a b : ℕ) → a ≢ b → same gas_bytes (cost_of a) (cost_of b) ≡ false
same_false a b ne = rw (cost_le a b, cost_le b a) (grind (arith, nat_tests))

-- ---- offering does not look at the start and the goal

module _ (R : Rules) (a b a' b' : ℕ) where
  pub offers_any : (H : Hand Cost) (p : ℕ) (g : Cost) (xs : List (Succ Cost ℕ)) (w : Work Cost ℕ) → offers gas_bytes (coded R a b) H p g xs w ≡ offers gas_bytes (coded R a' b') H p g xs w
  unfolding offers
  offers_any H p g [] w = refl
  offers_any H p g (x ∷ xs) w =
      ap (offers gas_bytes (coded R a b) H p g xs) (offer_any R a b H p g x w ∙ sym (offer_any R a' b' H p g x w))
      ∙ offers_any H p g xs (offer gas_bytes (coded R a' b') H p g x w)
