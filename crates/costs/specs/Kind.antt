-- The kinds of keys, as document 01's table of kinds numbers them.
use Rattle.std.specs.Prelude.{ℕ}
use Rattle.costs.specs.declared.Kind.{Kind}
use Rattle.costs.specs.declared.Kind.TheVariants.{Value, Immediate, Zero}

-- the number of a kind
abbrev pub kind_of : Kind → ℕ
kind_of Value = 0
kind_of Immediate = 1
kind_of Zero = 2
