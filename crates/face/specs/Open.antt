-- The open list as a slice of entries, in the definitions of the search's open list (document 01, "Forms the Rust cannot keep": "then one thin").
use Rattle.std.specs.Prelude.{◌≡◌, Bool, true, cond, ◌&&◌, List, [], ◌∷◌, map, ℕ, zero as zeroN, suc, ◌+◌, ◌-◌, ltb, leb, length, get_or, set, take}
use Rattle.std.specs.Prelude.{Option, None, Some}
use Rattle.costs.specs.declared.Cost.{Cost}
use Rattle.window.specs.State.{whole}
use Rattle.algebra.specs.GasBytes.{gas_bytes}
use Rattle.astar.specs.Search.{Entry as Waiting, before, push}
use Rattle.astar.specs.Bag.{sorted}
use Rattle.heap.specs.declared.Entry.{Entry}

-- ---- entries and the queue that they stand for

-- an entry of the search: its state is the packed window as an integer
abbrev pub entry_of : Entry Cost → Waiting Cost
entry_of e = record { f = e.f; g = e.g; state = whole e.state }

-- the entries of the first n places, least first: by f, then g, then the state as an integer (document 01, "One turn of the search")
unfoldable pub queue_in : List (Entry Cost) → ℕ → List (Waiting Cost)
queue_in s n = sorted gas_bytes (map entry_of (take n s))

-- a comes no later than b
unfoldable pub no_later : Entry Cost → Entry Cost → Bool
no_later a b = before gas_bytes (entry_of a) (entry_of b)

-- ---- places

-- what a read past the end would give
abbrev pub zero : Entry Cost
zero = record {
  f = record { gas = 0; bytes = 0 };
  g = record { gas = 0; bytes = 0 };
  state = record { hi = 0; lo = 0 };
}

abbrev pub at : List (Entry Cost) → ℕ → Entry Cost
at s i = get_or s i zero

-- e in the place i
abbrev pub stored : List (Entry Cost) → ℕ → Entry Cost → List (Entry Cost)
stored s i e = set s i e

-- which of the places i and j holds the lesser of a and b
unfoldable pub lesser_at : Entry Cost → Entry Cost → ℕ → ℕ → ℕ
lesser_at a b i j = cond (no_later a b) i j

-- the place of the least of s[k], s[i], s[i + 1], .., n of them after the first
unfoldable pub least_from : List (Entry Cost) → ℕ → ℕ → ℕ → ℕ
least_from s k i zeroN = k
least_from s k i (suc n) = least_from s (lesser_at (at s k) (at s i) k i) (suc i) n

-- the place of the least of the first n
abbrev pub least_at : List (Entry Cost) → ℕ → ℕ
least_at s n = least_from s 0 1 (n - 1)

abbrev pub least_of : List (Entry Cost) → ℕ → Entry Cost
least_of s n = at s (least_at s n)

-- the last of the first n in the place of their least
abbrev pub without : List (Entry Cost) → ℕ → List (Entry Cost)
without s n = set s (least_at s n) (at s (n - 1))

-- ---- what the functions do

-- a place is free behind n entries
abbrev pub free : List (Entry Cost) → ℕ → Bool
free s n = ltb n (length s)

-- there are n entries, and one at least
abbrev pub held : List (Entry Cost) → ℕ → Bool
held s n = ltb 0 n && leb n (length s)

-- `push` on the list s, which is t then: r says whether there was room, and a full list is left as it was
pub record Pushed (s t : List (Entry Cost)) (n : ℕ) (e : Entry Cost) (r : Bool) : Type 0 where
  pub answer : r ≡ free s n
  pub list : t ≡ cond (free s n) (stored s n e) s
  pub queue : free s n ≡ true → queue_in t (n + 1) ≡ push gas_bytes (entry_of e) (queue_in s n)

-- the least of the first n, if there is one
abbrev pub first : List (Entry Cost) → ℕ → Option (Entry Cost)
first s n = cond (held s n) (Some (least_of s n)) None

-- what is left in the places without it
abbrev pub left : List (Entry Cost) → ℕ → List (Entry Cost)
left s n = cond (held s n) (without s n) s

-- `take_least` on the list s, which is t then: the head of the queue comes out and its rest stays; where there is none the list is left as it was
pub record Taken (s t : List (Entry Cost)) (n : ℕ) (r : Option (Entry Cost)) : Type 0 where
  pub answer : r ≡ first s n
  pub list : t ≡ left s n
  pub queue : held s n ≡ true → queue_in s n ≡ entry_of (least_of s n) ∷ queue_in t (n - 1)

-- the same of n entries that are there
pub record Removed (s t : List (Entry Cost)) (n : ℕ) (r : Entry Cost) : Type 0 where
  pub least : r ≡ least_of s n
  pub list : t ≡ without s n

-- ---- the answer and the queue's head, to compare them

abbrev pub drawn : Option (Entry Cost) → Option (Waiting Cost)
drawn (Some e) = Some (entry_of e)
drawn None = None

abbrev pub foremost : List (Waiting Cost) → Option (Waiting Cost)
foremost [] = None
foremost (e ∷ es) = Some e
