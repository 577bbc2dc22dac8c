-- Lists of keys.
use Rattle.std.specs.Prelude.{ℕ, ◌≤◌, ◌<◌, List, length, get_or}

-- every key of a list is below 64
abbrev pub KeysFit : List ℕ → Type 0
KeysFit ks = (i : ℕ) → i < length ks → get_or ks i 0 < 64

-- the keys of a window: each is below 64, and there are at most 21
pub record Keyed (w : List ℕ) : Type 0 where
  pub fit : KeysFit w
  pub few : length w ≤ 21
