-- Each step of an expansion can be carried out.
use Rattle.std.specs.Prelude.{ℕ, ◌≤◌, List, [], ◌∷◌, length}
use Rattle.costs.specs.declared.Step.{Step}
use Rattle.replay.specs.Machine.{Rules}
use Rattle.replay.specs.Laws.{Ready, ready}
use Rattle.window.specs.Pack.{Keys}
use Rattle.successors.specs.Parts.{All}
use Rattle.successors.specs.Successors.{Question, steps_from}
use Rattle.successors.specs.Limits.{Bounds, Fine, steps_fine}

all_ready : (q : Rules) (w : List ℕ) (ss : List Step) → q.max_len ≤ 21 → All (Fine q w) ss → All (λ s. Ready s (length w)) ss
all_ready q w [] m h = tt
all_ready q w (s ∷ ss) m h = (ready q s (length w) m h.0.allowed, all_ready q w ss m h.1)

pub steps_ready : (q : Question) → Bounds q → (w : List ℕ) → Keys 6 w → (last : ℕ) → All (λ s. Ready s (length w)) (steps_from q w last)
steps_ready q b w k last = all_ready q.rules w (steps_from q w last) b.window (steps_fine q w k b.keys last)
