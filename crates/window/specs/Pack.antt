-- What a packed window is: a list of keys of w bits each, top first, as one number.
use Rattle.std.specs.Prelude.{ℕ, ◌+◌, ◌*◌, ◌^◌, ◌<◌, List, [], ◌∷◌}

-- each key is a number of w bits
abbrev pub Keys : ℕ → List ℕ → Type 0
Keys w [] = Unit {0}
Keys w (k ∷ ks) = (k < 2 ^ w) × Keys w ks

-- the top key lowest, w bits a key, and a marker bit above the last
abbrev pub pack : ℕ → List ℕ → ℕ
pack w [] = 1
pack w (k ∷ ks) = k + 2 ^ w * pack w ks
