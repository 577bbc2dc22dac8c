-- A state holds a window in one way: what a ghost field may keep of it.
use Rattle.std.specs.Prelude.{ℕ, List, [], ◌∷◌}
use Rattle.std.specs.Coded.{×_prop, Unit-prop, le_prop}
use Rattle.std.proofs.Props.{props}
use Rattle.window.specs.declared.PackedState.{PackedState}
use Rattle.window.specs.Pack.{Keys}
use Rattle.window.specs.Keys.{keys_of, Window}

pub keys_prop : (w : ℕ) (xs : List ℕ) → IsProp (Keys w xs)
keys_prop w [] = Unit-prop
keys_prop w (k ∷ ks) = ×_prop le_prop (keys_prop w ks)

pub window_prop : (s : PackedState) → IsProp (Window s)
window_prop s = hlevel (props, keys_prop 6 (keys_of s))
