-- What the node list means: the rows of the first n nodes, newest first, and what a look-up of a state in them gives. `Chained` is
-- what ties the lists of numbers to it: each bucket's head, and each node's next, is the last node before it of the same bucket.
-- Assumes nothing.
use Rattle.std.specs.Prelude.{◌≡◌, Bool, ◌&&◌, cond, Option, Some, None, List, [], ◌∷◌, ℕ, zero, suc, ◌+◌, ◌*◌, ◌/◌, ◌%◌, ◌^◌, ◌≤◌, ◌<◌, min, length, get_or, set, eqb, nat_lt}
use Rattle.std.specs.Int.Bits.{bit_xor}
use Rattle.window.specs.declared.PackedState.{PackedState}
use Rattle.nodes.specs.declared.Row.{Row}

-- the state of the node at index i
abbrev pub state_at : List ℕ → ℕ → PackedState
state_at xs i = record { hi = get_or xs (i * 8) 0; lo = get_or xs (i * 8 + 1) 0 }

-- the node at index i
abbrev pub row_at : List ℕ → ℕ → Row
row_at xs i = record {
  state = state_at xs i;
  cost = get_or xs (i * 8 + 2) 0;
  parent = record { hi = get_or xs (i * 8 + 3) 0; lo = get_or xs (i * 8 + 4) 0 };
  step = get_or xs (i * 8 + 5) 0;
}

-- values stored one after the other, the first at place at + k
abbrev pub stores : List ℕ → ℕ → ℕ → List ℕ → List ℕ
stores xs at k [] = xs
stores xs at k (v ∷ vs) = stores (set xs (at + k) v) at (suc k) vs

-- a node and its next, written from the place at on
abbrev pub written : List ℕ → ℕ → Row → ℕ → List ℕ
written xs at v next = stores (set xs at v.state.hi) at 1 (v.state.lo ∷ v.cost ∷ v.parent.hi ∷ v.parent.lo ∷ v.step ∷ next ∷ [])

-- the first n nodes, the newest first
unfoldable pub rows : List ℕ → ℕ → List Row
rows xs zero = []
rows xs (suc n) = row_at xs n ∷ rows xs n

-- whether a node is of a state
abbrev pub is_state : Row → PackedState → Bool
is_state r s = eqb r.state.hi s.hi && eqb r.state.lo s.lo

-- the newest node of a state, by its index from the oldest
unfoldable pub lookup : List Row → PackedState → Option ℕ
lookup [] s = None
lookup (r ∷ rs) s = cond (is_state r s) (Some (length rs)) (lookup rs s)

mixed : ℕ → ℕ
mixed h = bit_xor h (h / 2 ^ 32)

-- the bucket of a state, of m: a number of 32 bits, scaled to m
unfoldable pub bucket_of : PackedState → ℕ → ℕ
unfolding mixed
bucket_of s m =
    mixed (bit_xor (bit_xor (bit_xor (s.lo % 4294967296 * 2654435769) (s.lo / 2 ^ 32 * 2246822519)) (s.hi % 4294967296 * 3266489917)) (s.hi / 2 ^ 32 * 668265263)) % 4294967296
    * min m 4294967295
    / 2 ^ 32

-- the node of a number, if it is one of the first n
abbrev pub node_of : ℕ → ℕ → Option ℕ
node_of i n = cond (nat_lt i n) (Some i) None

-- the bucket of the node at index i
abbrev pub bucket_at : List ℕ → ℕ → ℕ → ℕ
bucket_at xs m i = bucket_of (state_at xs i) m

-- h is the last node below lim in the bucket of the node i
pub record Led (xs : List ℕ) (m lim b h i : ℕ) : Type 0 where
  pub reach : i ≤ h
  pub below : h < lim
  pub bucket : bucket_at xs m h ≡ b

-- h leads to every node below lim that is in bucket b. Where there is none, h may be anything
abbrev pub Leads : List ℕ → ℕ → ℕ → ℕ → ℕ → Type 0
Leads xs m lim b h = (i : ℕ) → i < lim → bucket_at xs m i ≡ b → Led xs m lim b h i

pub record Chained (xs hs : List ℕ) (n : ℕ) : Type 0 where
  pub room : n * 8 ≤ length xs
  pub some : 0 < length hs
  pub heads : (b : ℕ) → b < length hs → Leads xs (length hs) n b (get_or hs b 0)
  pub nexts : (j : ℕ) → j < n → Leads xs (length hs) j (bucket_at xs (length hs) j) (get_or xs (j * 8 + 6) 0)

-- node i is v now, and the others are as they were
pub record Wrote (xs ys : List ℕ) (i : ℕ) (v : Row) : Type 0 where
  pub new : row_at ys i ≡ v
  pub others : (k : ℕ) → (k ≡ i → ⊥) → row_at ys k ≡ row_at xs k
