-- The keys so far, each once.
use Rattle.std.specs.Prelude.{◌≡◌}
use Rattle.successors.specs.Parts.{up_to}
use Rattle.successors.specs.Successors.{first_at}
use Rattle.successors.proofs.distinct_keys.Given as goal

abbrev pub invariant-loop-key : goal.invariant-loop-key
invariant-loop-key l = l.keys.items ≡ up_to (first_at l.list) l.key-index
