-- A fact of every waiting entry. That it is kept: proofs/Valid.
use mathlib.Core.List.{List, [], ◌∷◌}
use Rattle.astar.specs.Cost.{CostAlgebra}
use Rattle.astar.specs.Search.{Entry}

module _ (K : CostAlgebra) (Valid : Entry K.C → Type 0) where
  -- every waiting entry is valid
  abbrev pub AllValid : List (Entry K.C) → Type 0
  AllValid [] = Unit {0}
  AllValid (e ∷ es) = Valid e × AllValid es
