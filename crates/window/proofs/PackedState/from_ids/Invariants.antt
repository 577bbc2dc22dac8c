-- The keys behind those that are left are held.
use Rattle.std.specs.Prelude.{◌≡◌, ◌++◌, List, ℕ}
use Rattle.std.specs.Slice.Iter.{iter_rest}
use Rattle.std.specs.Iterator.Adapters.{rev_source}
use Rattle.window.specs.State.{Held}
use Rattle.window.proofs.PackedState.from_ids.Given as goal

abbrev pub invariant-loop-key : goal.invariant-loop-key
invariant-loop-key l = (xs : List ℕ) × (iter_rest (rev_source l.key-iterator) ++ xs ≡ l.ids) × Held 6 l.s xs
