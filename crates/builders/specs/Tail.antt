-- Delete-tail (document 01, "A bound before the search"): kept keys are swapped under the keys to delete, which are popped; star-swap puts the kept keys in order.
use Rattle.std.specs.Prelude.{ℕ, zero, suc, ◌-◌, min, Bool, true, false, not, ◌&&◌, ◌||◌, List, [], ◌∷◌, length, eqb, ltb}
use Rattle.std.specs.Prelude.{Option, None, Some}
use Rattle.costs.specs.Choice.{◌if◌otherwise◌}
use Rattle.costs.specs.declared.Step.TheVariants.{Pop, Swap}
use Rattle.builders.specs.Draft.{Draft, fresh, does, routed}
use Rattle.star_swap.specs.Refusal.{builder_refusal, written}
use Rattle.star_swap.specs.declared.Written.{Written}

-- the top key is swapped to the i-th place from the bottom, and what stood there is popped; so for as many keys as the first number says
unfoldable pub bury : ℕ → ℕ → Draft → Draft
bury zero i p = p
bury (suc n) i p = bury n (suc i) (does Pop (does (Swap (length p.window - 1 - i)) p))

-- so many pops
unfoldable pub pops : ℕ → Draft → Draft
pops zero p = p
pops (suc n) p = pops n (does Pop p)

-- how many keys are deleted
abbrev pub dead : List ℕ → List ℕ → ℕ
dead start goal = length start - length goal

-- how many kept keys are buried: one for each deleted key, as far as they go
abbrev pub buried : List ℕ → List ℕ → ℕ
buried start goal = min (length goal) (dead start goal)

-- the window and the steps before star-swap
unfoldable pub uncovered : List ℕ → List ℕ → Draft
uncovered start goal = pops (dead start goal - buried start goal) (bury (buried start goal) 0 (fresh start))

-- delete-tail's steps
unfoldable pub delete_tail : List ℕ → List ℕ → List ℕ
delete_tail start goal = (routed goal (uncovered start goal)).steps

-- whether a list is the beginning of another
unfoldable pub begins : List ℕ → List ℕ → Bool
begins [] w = true
begins (x ∷ goal) [] = false
begins (x ∷ goal) (y ∷ w) = eqb x y && begins goal w

-- refusal 10: the goal is not a strictly shorter prefix of the start, or the start is longer than swap_max
unfoldable pub not_tail : ℕ → List ℕ → List ℕ → Bool
not_tail swap_max start goal = not (begins goal start) || (not (ltb (length goal) (length start)) || ltb swap_max (length start))

-- delete-tail's refusal table, for a step list of so many places: the lowest number that applies, or 0
abbrev pub tail_refusal : ℕ → List ℕ → List ℕ → ℕ → ℕ
tail_refusal swap_max start goal places =
    builder_refusal swap_max start goal places
    (10 if not_tail swap_max start goal otherwise 0)

-- delete-tail's answer and its step list (document 01, the public calls)
unfoldable pub deleted : ℕ → List ℕ → List ℕ → List ℕ → Written × List ℕ
deleted swap_max start goal old = written (tail_refusal swap_max start goal (length old)) (delete_tail start goal) old

-- delete-tail as a builder: the plan, or none (document 01, "A builder that has none")
unfoldable pub tail_plan : ℕ → List ℕ → List ℕ → Option (List ℕ)
tail_plan swap_max start goal = None if not_tail swap_max start goal otherwise Some (delete_tail start goal)
