-- The star-swap call: its refusals, its answer and its step list.
use Rattle.std.specs.Prelude.{ℕ, zero, suc, Bool, true, false, not, ◌&&◌, ◌||◌, List, [], ◌∷◌, ◌++◌, length, drop, eqb, ltb}
use Rattle.std.specs.Prelude.{Result, Ok, Err}
use Rattle.costs.specs.Choice.{◌if◌otherwise◌}
use Rattle.costs.specs.Refusal.{number_of}
use Rattle.costs.specs.declared.Refusal.{Refusal}
use Rattle.costs.specs.Table.{any_over, count_of}
use Rattle.star_swap.specs.Star.{star_swaps, codes}
use Rattle.star_swap.specs.declared.Written.{Written}

-- whether two windows hold each key below a number equally often (refusal 9)
abbrev pub same_counts : ℕ → List ℕ → List ℕ → Bool
same_counts zero a b = true
same_counts (suc k) a b = eqb (count_of k a) (count_of k b) && same_counts k a b

-- whether two windows hold the same keys at the same places (refusal 9)
abbrev pub are_keys_same : List ℕ → List ℕ → Bool
are_keys_same [] [] = true
are_keys_same [] (y ∷ b) = false
are_keys_same (x ∷ a) [] = false
are_keys_same (x ∷ a) (y ∷ b) = eqb x y && are_keys_same a b

-- refusal 9: the windows are no rearrangement of each other, or differ at a place that Swaps do not reach
unfoldable pub unroutable : ℕ → List ℕ → List ℕ → Bool
unroutable swap_max start goal =
    not (eqb (length start) (length goal)) || (not (same_counts 64 start goal) || not (are_keys_same (drop swap_max start) (drop swap_max goal)))

-- the rows of the refusal table that star-swap and delete-tail share, over the rows of higher numbers, for a step list of so many places
unfoldable pub builder_refusal : ℕ → List ℕ → List ℕ → ℕ → ℕ → ℕ
builder_refusal swap_max start goal places higher =
    1 if ltb 17 swap_max otherwise
    5 if (any_over 63 start || any_over 63 goal) otherwise
    6 if (ltb 21 (length start) || ltb 21 (length goal)) otherwise
    7 if ltb places 128 otherwise
    higher

-- star-swap's refusal table: the lowest number that applies, or 0
abbrev pub swap_refusal : ℕ → List ℕ → List ℕ → ℕ → ℕ
swap_refusal swap_max start goal places =
    builder_refusal swap_max start goal places
    (9 if unroutable swap_max start goal otherwise 0)

-- beside a number the count is zero and the list unchanged; without one the steps stand over its first places, the rest untouched
abbrev pub written : ℕ → List ℕ → List ℕ → Written × List ℕ
written number plan old =
    (record { refusal = 0; count = length plan }, plan ++ drop (length plan) old) if eqb number 0 otherwise
    (record { refusal = number; count = 0 }, old)

-- what a builder's call tells: its number of steps, or the number of a refusal
abbrev pub written_of : Result ℕ Refusal → Written
written_of (Ok n) = record { refusal = 0; count = n }
written_of (Err r) = record { refusal = number_of r; count = 0 }

-- star-swap's answer and its step list (document 01, the public calls)
unfoldable pub star_swapped : ℕ → List ℕ → List ℕ → List ℕ → Written × List ℕ
star_swapped swap_max start goal old = written (swap_refusal swap_max start goal (length old)) (codes (star_swaps start goal)) old
