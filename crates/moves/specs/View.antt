-- What the code is given, as the definitions have it.
use Rattle.std.specs.Prelude.{ℕ, List}
use Rattle.moves.specs.Moves.{Parent}
use Rattle.moves.specs.declared.Expansion.{Expansion}

-- x is of a state that is expanded for the goal, with Dups below dup_max
abbrev pub Expands : Expansion → (goal : List ℕ) → (dup_max : ℕ) → Type 0
Expands x goal dup_max = Parent x.weights.prices.now x.weights.dup x.estimate x.have.now x.weights.want.now x.state goal dup_max
