-- Text put into a lent buffer from a place on.
use Rattle.std.specs.Prelude.{ℕ, ◌+◌, ◌≤◌, List, ◌++◌, ◌≡◌, length, take, drop, ltb}
use Rattle.costs.specs.Choice.{◌if◌otherwise◌}

-- a text at a place of a list, the rest untouched
abbrev pub put_at : List ℕ → ℕ → List ℕ → List ℕ
put_at old at text = take at old ++ (text ++ drop (at + length text) old)

pub record Put (old : List ℕ) (at : ℕ) (text out : List ℕ) (r : ℕ) : Type 0 where
  pub fits : at + length text ≤ length old
  pub list : out ≡ put_at old at text
  pub place : r ≡ at + length text

-- what stands behind the number at place i of so many
unfoldable pub parted : ℕ → ℕ → ℕ
parted i count = 32 if ltb (i + 1) count otherwise 10
