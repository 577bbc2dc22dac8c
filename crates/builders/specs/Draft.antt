-- A plan while it is built: the window that its steps lead to, top first, and the codes of the steps so far.
use Rattle.std.specs.Prelude.{ℕ, ◌≤◌, List, [], ◌∷◌, ◌++◌, ◌≡◌, IfSome, length, take, drop}
use Rattle.std.specs.Option.{option_map}
use Rattle.costs.specs.declared.Step.{Step}
use Rattle.costs.specs.Step.{code_of}
use Rattle.replay.specs.Machine.{after}
use Rattle.star_swap.specs.Star.{run, star_swaps, codes}
use Rattle.std.specs.Prelude.{Option, None, Some}

-- a plan while it is built
pub record Draft : Type 0 where
  pub window : List ℕ
  pub steps : List ℕ

-- no step yet
abbrev pub fresh : List ℕ → Draft
fresh start = record { window = start; steps = [] }

-- one step more
unfoldable pub does : Step → Draft → Draft
does s p = record { window = after s p.window; steps = p.steps ++ (code_of s ∷ []) }

-- star-swap's steps behind those so far (document 01, "A bound before the search")
unfoldable pub routed : List ℕ → Draft → Draft
routed goal p = record { window = run p.window (star_swaps p.window goal); steps = p.steps ++ codes (star_swaps p.window goal) }

-- the steps of what a builder comes to, if anything
abbrev pub steps_of : Option Draft → Option (List ℕ)
steps_of None = None
steps_of (Some p) = Some p.steps

-- a plan over the first n places of a list, the rest as it was
pub record Over (plan : List ℕ) (n : ℕ) (old new : List ℕ) : Type 0 where
  pub count : n ≡ length plan
  pub list : new ≡ plan ++ drop (length plan) old

-- a list with a plan over its first places, or the list as it was
abbrev pub placed : Option (List ℕ) → List ℕ → List ℕ
placed None old = old
placed (Some plan) old = plan ++ drop (length plan) old

-- what a builder came to: a plan over the first places of a list, of at most 128 steps, or none; behind it the list is as it was
pub record Built (o : Option (List ℕ)) (r : Option ℕ) (old new : List ℕ) : Type 0 where
  pub plan : option_map (λ n. take n new) r ≡ o
  pub few : IfSome r (λ n. n ≤ 128)
  pub list : new ≡ placed o old
