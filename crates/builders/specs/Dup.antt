-- Dup-and-star (document 01, "A bound before the search"): surplus keys go, missing keys come, star-swap finishes.
use Rattle.std.specs.Prelude.{ℕ, zero, suc, ◌-◌, Bool, not, ◌&&◌, ◌||◌, List, [], ◌∷◌, length, eqb, ltb}
use Rattle.std.specs.Prelude.{Option, None, Some}
use Rattle.costs.specs.Choice.{◌if◌otherwise◌}
use Rattle.costs.specs.declared.Step.{Step}
use Rattle.costs.specs.declared.Step.TheVariants.{Pop, Dup, Swap, PushImm, LoadVal}
use Rattle.replay.specs.Machine.{Rules, room, immediate}
use Rattle.costs.specs.Table.{count_of}
use Rattle.star_swap.specs.Refusal.{unroutable}
use Rattle.builders.specs.Draft.{Draft, fresh, does, routed}

-- the place of the first key for which the test holds; the length, if there is none
unfoldable pub first_at : (ℕ → Bool) → List ℕ → ℕ
first_at t [] = 0
first_at t (x ∷ w) = 0 if t x otherwise suc (first_at t w)

-- a phase behind a phase; none where the first has none
abbrev pub and_then : Option Draft → (Draft → Option Draft) → Option Draft
and_then None f = None
and_then (Some p) f = f p

-- a key that stands in the window more often than in the goal
abbrev pub surplus : List ℕ → List ℕ → ℕ → Bool
surplus goal w k = ltb (count_of k goal) (count_of k w)

-- the place of the highest key of which there are too many, or the length
abbrev pub surplus_at : List ℕ → List ℕ → ℕ
surplus_at goal w = first_at (surplus goal w) w

-- the key at a place goes: to the top by a Swap, and off by a Pop
unfoldable pub drop_at : ℕ → Draft → Draft
drop_at d p = does Pop p if eqb d 0 otherwise does Pop (does (Swap d) p)

-- whether a surplus key can be swapped up: the top, or below swap_max
unfoldable pub within : ℕ → ℕ → Bool
within swap_max d = eqb d 0 || ltb d swap_max

-- the first surplus key from the top goes, until none is left; none where it is out of reach. The number is fuel: the window's length
unfoldable pub trimmed : ℕ → ℕ → List ℕ → Draft → Option Draft
trimmed zero swap_max goal p = Some p
trimmed (suc n) swap_max goal p =
    (trimmed n swap_max goal (drop_at (surplus_at goal p.window) p) if within swap_max (surplus_at goal p.window) otherwise None)
    if ltb (surplus_at goal p.window) (length p.window) otherwise
    Some p

-- a key that the window has not is pushed or loaded by its kind
unfoldable pub made : List ℕ → ℕ → Step
made kinds k = PushImm k if immediate kinds k otherwise LoadVal k

-- the place of a key that is nearest the top, or the length
abbrev pub place_of : ℕ → List ℕ → ℕ
place_of k w = first_at (eqb k) w

-- a copy of the key at a place: by Dup below dup_max, else swapped up first, above swap_max and if dup_max is not 0; none where it is out of reach
unfoldable pub copied : ℕ → ℕ → ℕ → Draft → Option Draft
copied dup_max swap_max d p =
    Some (does (Dup d) p) if ltb d dup_max otherwise
    Some (does (Dup 0) (does (Swap d) p)) if (not (eqb dup_max 0) && ltb d swap_max) otherwise
    None

-- one key more: a copy from the highest place, or the key made; none where the window is full
unfoldable pub added : Rules → ℕ → Draft → Option Draft
added q k p =
    (copied q.dup_max q.swap_max (place_of k p.window) p if ltb (place_of k p.window) (length p.window) otherwise Some (does (made q.kinds k) p))
    if room q.max_len (length p.window) otherwise
    None

-- so many of a key more
unfoldable pub added_times : ℕ → Rules → ℕ → Draft → Option Draft
added_times zero q k p = Some p
added_times (suc n) q k p = and_then (added q k p) (added_times n q k)

-- the missing keys in rising order: the first number counts the keys to come, the second is the key
unfoldable pub filled : ℕ → ℕ → Rules → List ℕ → Draft → Option Draft
filled zero k q goal p = Some p
filled (suc m) k q goal p = and_then (added_times (count_of k goal - count_of k p.window) q k p) (filled m (suc k) q goal)

-- star-swap finishes; none where it refuses
unfoldable pub finished : ℕ → List ℕ → Draft → Option Draft
finished swap_max goal p = None if unroutable swap_max p.window goal otherwise Some (routed goal p)

-- the plan, or none
unfoldable pub dup_and_star : Rules → List ℕ → List ℕ → Option Draft
dup_and_star q start goal =
    and_then (trimmed (length start) q.swap_max goal (fresh start))
    (λ p. and_then (filled 64 0 q goal p) (finished q.swap_max goal))
