-- The walk back: from an end window over the steps, the last first, to the start.
use Rattle.std.specs.Prelude.{ℕ, ◌&&◌, List, [], ◌∷◌, reverse, length, get_or, eqb}
use Rattle.std.specs.Prelude.{Option, None, Some}
use Rattle.costs.specs.Choice.{◌if◌otherwise◌}
use Rattle.costs.specs.Step.{decoded}
use Rattle.costs.specs.declared.Step.{Step}
use Rattle.costs.specs.declared.Step.TheVariants.{Pop, Dup, Swap, PushImm, LoadVal}
use Rattle.replay.specs.Machine.{Rules, allows, after, room}

-- a place on the walk: the window there, and the popped keys not yet put back, the last popped first
pub record Place : Type 0 where
  pub window : List ℕ
  pub left : List ℕ

abbrev pub place : List ℕ → List ℕ → Place
place w left = record { window = w; left = left }

-- the key that a step puts on top of a window, 0 for a step that puts none
abbrev pub put_by : Step → List ℕ → ℕ
put_by Pop w = 0
put_by (Dup p) w = get_or w p 0
put_by (Swap d) w = 0
put_by (PushImm k) w = k
put_by (LoadVal k) w = k

-- back over a Pop: the last popped key is put back, if the window may grow
abbrev pub regrown : ℕ → List ℕ → List ℕ → Option Place
regrown max_len w [] = None
regrown max_len w (k ∷ left) = Some (place (k ∷ w) left) if room max_len (length w) otherwise None

-- back over a step that put a key on top: the key is taken off, if the step was allowed below it and puts that key
abbrev pub ungrown : Rules → Step → List ℕ → List ℕ → Option Place
ungrown q s [] left = None
ungrown q s (k ∷ w) left = Some (place w left) if allows q s (length w) && eqb (put_by s w) k otherwise None

-- back over a Swap: the same Swap
abbrev pub unswapped : Rules → Step → List ℕ → List ℕ → Option Place
unswapped q s w left = Some (place (after s w) left) if allows q s (length w) otherwise None

-- one step back, or none where the step cannot have led here
unfoldable pub back_over : Rules → Step → List ℕ → List ℕ → Option Place
back_over q Pop w left = regrown q.max_len w left
back_over q (Dup p) w left = ungrown q (Dup p) w left
back_over q (Swap d) w left = unswapped q (Swap d) w left
back_over q (PushImm k) w left = ungrown q (PushImm k) w left
back_over q (LoadVal k) w left = ungrown q (LoadVal k) w left

-- the same for what a code stands for; one that is no step cannot have led here
abbrev pub back_on : Rules → Option Step → Place → Option Place
back_on q (Some s) a = back_over q s a.window a.left
back_on q None a = None

-- on from a place, if there is one
abbrev pub then : (Place → Option Place) → Option Place → Option Place
then next None = None
then next (Some a) = next a

-- back over all the codes: over the last ones first, then over the first
unfoldable pub walked_back : Rules → List ℕ → Place → Option Place
walked_back q [] a = Some a
walked_back q (c ∷ cs) a = then (back_on q (decoded c)) (walked_back q cs a)

-- the window of a walk that put every popped key back
abbrev pub all_back : List ℕ → List ℕ → Option (List ℕ)
all_back w [] = Some w
all_back w (k ∷ left) = None

-- the start at the end of a walk, if it came through and put every popped key back
abbrev pub start_of : Option Place → Option (List ℕ)
start_of None = None
start_of (Some a) = all_back a.window a.left

-- the start before the steps, if there is one
unfoldable pub start_before : Rules → List ℕ → List ℕ → List ℕ → Option (List ℕ)
start_before q end steps popped = start_of (walked_back q steps (place end (reverse popped)))
