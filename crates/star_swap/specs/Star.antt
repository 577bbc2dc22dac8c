-- Star-swap (document 01, "A bound before the search"): a misplaced slot is an arc from the key that the goal has there to the key that stands
-- there. A trail from the key on top walks what arcs it can; what is left are circuits, by rising key, each begun and ended at its last slot. A slot
-- is a position of at least 1.
use Rattle.std.specs.Prelude.{Bool, true, false, List, [], ◌∷◌, ◌++◌, map, ℕ, zero, suc, ◌*◌, eqb, length, get_or, set}
use Rattle.costs.specs.Step.{code_of}
use Rattle.costs.specs.declared.Step.TheVariants.{Swap}

-- `Swap d` exchanges the items 0 and d
abbrev pub swap_at : List ℕ → ℕ → List ℕ
swap_at w d = set (set w 0 (get_or w d 0)) d (get_or w 0 0)

-- the window after a list of swaps
unfoldable pub run : List ℕ → List ℕ → List ℕ
run w [] = w
run w (d ∷ ds) = run (swap_at w d) ds

-- what `pick` gives: no slot of the list needs the key, or the first that does, and the list without it
pub data Pick : Type 0 where
  nothing : Pick
  arc : ℕ → List ℕ → Pick

-- the list without the slot that was found, with a slot more in front
abbrev pub keep : ℕ → Pick → Pick
keep j nothing = nothing
keep j (arc i R) = arc i (j ∷ R)

-- a slot whose goal key is the one looked for is taken
abbrev pub pick_if : Bool → ℕ → List ℕ → Pick → Pick
pick_if true j R r = arc j R
pick_if false j R r = keep j r

-- an arc out of the key k: the first slot of the list whose goal key (by g) is k
unfoldable pub pick : (ℕ → ℕ) → ℕ → List ℕ → Pick
pick g k [] = nothing
pick g k (j ∷ R) = pick_if (eqb (g j) k) j R (pick g k R)

-- the key where the trail stands: that of the stack's top frame. The bottom frame, the start with no slot, is the empty list
abbrev pub key_of : (ℕ → ℕ) → ℕ → List ℕ → ℕ
key_of c start [] = start
key_of c start (s ∷ st) = c s

-- a trail: its slots in the order of the swaps, and the slots left
pub record Trail : Type 0 where
  pub out : List ℕ
  pub left : List ℕ

-- The trail's loop. g: a slot's goal key; c: its present key; st: the stack's slots, top first; out: the output read backwards, so that it
-- is in the order of the swaps; R: the slots left, rising. The number is fuel: twice the slots left, and the stack, is below it
abbrev pub trail_step : (st out R : List ℕ) → Pick → (List ℕ → List ℕ → List ℕ → Trail) → Trail
trail_step st out R (arc i R') next = next (i ∷ st) out R'
trail_step [] out R nothing next = record { out = out; left = R }
trail_step (s ∷ st) out R nothing next = next st (s ∷ out) R

-- so many turns of the trail's loop
unfoldable pub trail_loop : (g c : ℕ → ℕ) (start : ℕ) → ℕ → (st out R : List ℕ) → Trail
trail_loop g c start zero st out R = record { out = out; left = R }
trail_loop g c start (suc n) st out R = trail_step st out R (pick g (key_of c start st) R) (trail_loop g c start n)

-- the trail from a key, with fuel enough: a turn takes a slot off the list or off the stack
unfoldable pub trail : (g c : ℕ → ℕ) → ℕ → List ℕ → Trail
trail g c start R = trail_loop g c start (suc (2 * length R)) [] [] R

-- the last number of a list
unfoldable pub last_of : List ℕ → ℕ
last_of [] = 0
last_of (x ∷ l) = elim l [ [] ↦ x | y ∷ m ↦ last_of l ]

-- a circuit is entered by its last slot, which is also its last swap
abbrev pub entered : List ℕ → List ℕ
entered [] = []
entered (x ∷ l) = last_of (x ∷ l) ∷ x ∷ l

-- the circuits that are left, by rising key: the first number counts the keys to come, the second is the key
unfoldable pub circuits : (g c : ℕ → ℕ) → ℕ → ℕ → List ℕ → List ℕ
circuits g c zero k R = []
circuits g c (suc n) k R =
    let t : Trail = trail g c k R in
    entered t.out ++ circuits g c n (suc k) t.left

-- a position where two keys differ
abbrev pub slot_if : Bool → ℕ → List ℕ → List ℕ
slot_if true p l = l
slot_if false p l = p ∷ l

-- the positions, from p on, at which two windows differ, rising
unfoldable pub misplaced : ℕ → List ℕ → List ℕ → List ℕ
misplaced p [] goal = []
misplaced p (x ∷ cur) [] = []
misplaced p (x ∷ cur) (y ∷ goal) = slot_if (eqb x y) p (misplaced (suc p) cur goal)

-- the key at a place
abbrev pub at : List ℕ → ℕ → ℕ
at w i = get_or w i 0

-- the whole list of swaps: the trail from the top's key, then the circuits
unfoldable pub star_swaps : List ℕ → List ℕ → List ℕ
star_swaps [] goal = []
star_swaps (x ∷ cur) [] = []
star_swaps (x ∷ cur) (y ∷ goal) =
    let t : Trail = trail (at (y ∷ goal)) (at (x ∷ cur)) x (misplaced 1 cur goal) in
    t.out ++ circuits (at (y ∷ goal)) (at (x ∷ cur)) 64 0 t.left

-- a swap as a step's code, and a list of swaps as codes (document 01, "A step is a u16")
abbrev pub code : ℕ → ℕ
code d = code_of (Swap d)

abbrev pub codes : List ℕ → List ℕ
codes l = map code l
