-- What a `PackedState` holds.
use Rattle.std.specs.Prelude.{◌≡◌, List, ℕ, ◌+◌, ◌*◌, ◌^◌, get_or, set}
use Rattle.window.specs.declared.PackedState.{PackedState}
use Rattle.window.specs.Pack.{Keys, pack}

-- the state as an integer
unfoldable pub whole : PackedState → ℕ
whole s = s.hi * 2 ^ 64 + s.lo

-- the state s holds the window xs, at w bits a key
pub record Held (w : ℕ) (s : PackedState) (xs : List ℕ) : Type 0 where
  pub keys : Keys w xs
  pub value : whole s ≡ pack w xs

-- the keys at 0 and at d exchanged
abbrev pub swapped : List ℕ → ℕ → List ℕ
swapped xs d = set (set xs 0 (get_or xs d 0)) d (get_or xs 0 0)
