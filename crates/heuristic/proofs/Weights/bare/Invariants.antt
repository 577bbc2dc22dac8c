-- The sum so far and what is left to add.
use Rattle.std.specs.Prelude.{◌≡◌, ◌≤◌, drop}
use Rattle.costs.specs.Cost.{capped}
use Rattle.heuristic.specs.Bare.{over_keys}
use Rattle.heuristic.specs.Weighed.{bare_of}
use Rattle.heuristic.proofs.Weights.bare.Given as goal

abbrev pub invariant-loop-key : goal.invariant-loop-key
invariant-loop-key l = (l.sum ≤ 4294967295) × (capped l.sum (over_keys (bare_of l.self) (drop l.key-index l.keys)) ≡ over_keys (bare_of l.self) l.keys)
