-- No key above the place is the one that is looked for.
use Rattle.std.specs.Prelude.{ℕ, ◌≡◌, ◌==◌, ◌<◌, false, get_or}
use Rattle.builders.proofs.Work.place_of.Given as goal

abbrev pub invariant-loop-i : goal.invariant-loop-i
invariant-loop-i l = (k : ℕ) → k < l.i → (l.key == get_or l.self.window k 0) ≡ false
