-- A step keeps the keys of a window below 64.
use Rattle.std.specs.Prelude.{ℕ, ◌<◌, List, [], ◌∷◌, length, get_or, drop}
use Rattle.std.proofs.Common.{arith}
use Rattle.std.proofs.Math.Decide.{ℕ_discrete}
use Rattle.costs.specs.declared.Step.{Step}
use Rattle.costs.specs.declared.Step.TheVariants.{Pop, Dup, Swap, PushImm, LoadVal}
use Rattle.replay.specs.Machine.{after}
use Rattle.star_swap.specs.Count.{cnt_by, δ_neg}
use Rattle.star_swap.specs.Routes.{swap_cnt}
use Rattle.star_swap.specs.Routable.{Small, small_at}

-- what a step needs to keep keys below 64
abbrev pub Tame : Step → List ℕ → Type 0
Tame Pop w = Unit {0}
Tame (Dup p) w = p < length w
Tame (Swap d) w = (0 < d) × (d < length w)
Tame (PushImm k) w = k < 64
Tame (LoadVal k) w = k < 64

one_more : (w : List ℕ) (k : ℕ) → Small w → k < 64 → Small (k ∷ w)
unfolding cnt_by
one_more w k h l x p =
    elim (ℕ_discrete x k) [
      | yes e ↦ omega arith
      | no e ↦ h x (omega (arith, δ_neg x k e))
    ]

one_less : (w : List ℕ) → Small w → Small (drop 1 w)
unfolding cnt_by
one_less [] h = h
one_less (y ∷ w) h = λ x p. h x (omega arith)

pub after_small : (s : Step) (w : List ℕ) → Tame s w → Small w → Small (after s w)
unfolding after
after_small Pop w t h = one_less w h
after_small (Dup p) w t h = one_more w (get_or w p 0) h (small_at w h p t)
after_small (Swap d) w t h = λ x p. h x (omega (arith, swap_cnt w d x t.0 t.1))
after_small (PushImm k) w t h = one_more w k h t
after_small (LoadVal k) w t h = one_more w k h t
