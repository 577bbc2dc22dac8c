-- The keys behind those that are left are counted.
use Rattle.std.specs.Prelude.{◌≡◌, ◌≤◌, ◌++◌, List, [], ℕ, length}
use Rattle.std.specs.Slice.Iter.{iter_rest}
use Rattle.std.specs.Iterator.Adapters.{rev_source}
use Rattle.window.specs.Keys.{keys_of}
use Rattle.heuristic.specs.Weighed.{Stands}
use Rattle.heuristic.proofs.Weights.standing.Given as goal

abbrev pub invariant-loop-key : goal.invariant-loop-key
invariant-loop-key l =
    (xs : List ℕ) × (iter_rest (rev_source l.key-iterator) ++ xs ≡ keys_of l.fn.state)
    × ((goal : List ℕ) → Stands l.self l.base l.initial.have [] goal → length goal ≤ 21 → Stands l.self l.h l.have xs goal)
