-- The flush cost (document 01, "A bound before the search"): what it costs to pop the start down to the keys that it shares with the goal at the
-- bottom, and to make the goal's other keys.
use Rattle.std.specs.Prelude.{ℕ, zero, suc, ◌-◌, min, List, [], ◌∷◌, length, get_or, take, eqb}
use Rattle.costs.specs.Choice.{◌if◌otherwise◌}
use Rattle.costs.specs.declared.Cost.{Cost}
use Rattle.costs.specs.declared.Step.TheVariants.{Pop, PushImm}
use Rattle.std.specs.Prelude.{Some}
use Rattle.costs.specs.Cost.{plus, none}
use Rattle.costs.specs.Price.{price_of}

-- the key at place k from the bottom
abbrev pub bottom_at : List ℕ → ℕ → ℕ
bottom_at w k = get_or w (length w - 1 - k) 0

-- how many keys from the bottom are the same, k of them known, so many to look at
unfoldable pub same_from : ℕ → ℕ → List ℕ → List ℕ → ℕ
same_from zero k a b = k
same_from (suc n) k a b = same_from n (suc k) a b if eqb (bottom_at a k) (bottom_at b k) otherwise k

-- the common suffix's length
unfoldable pub common_suffix : List ℕ → List ℕ → ℕ
common_suffix a b = same_from (min (length a) (length b)) 0 a b

-- a cost with so many pops more, summed as the Rust does
unfoldable pub with_pops : List ℕ → ℕ → Cost → Cost
with_pops prices zero sum = sum
with_pops prices (suc n) sum = with_pops prices n (plus sum (price_of prices (Some Pop)))

-- the pop price so many times
abbrev pub pops_cost : List ℕ → ℕ → Cost
pops_cost prices n = with_pops prices n none

-- a cost with the prices of keys more, each the price of pushing or loading it
unfoldable pub with_keys : List ℕ → Cost → List ℕ → Cost
with_keys prices sum [] = sum
with_keys prices sum (k ∷ ks) = with_keys prices (plus sum (price_of prices (Some (PushImm k)))) ks

-- the flush cost
unfoldable pub flush_cost : List ℕ → List ℕ → List ℕ → Cost
flush_cost prices start goal =
    with_keys prices (pops_cost prices (length start - common_suffix start goal)) (take (length goal - common_suffix start goal) goal)
