-- For each start and allowance that count the steps so: what is left of the count, and the plan from the steps that are written.
use Rattle.std.proofs.Common.{ℕ, length}
use Rattle.window.specs.declared.PackedState.{PackedState}
use Rattle.lists.specs.View.{nodes_of}
use Rattle.back.specs.Back.{HasSteps}
use Rattle.back.proofs.Steps.{Writing}
use Rattle.back.proofs.write_steps.Given as goal

abbrev pub invariant-loop-i : goal.invariant-loop-i
invariant-loop-i l =
    (start : PackedState) (most : ℕ) → HasSteps start l.initial.at most (nodes_of l.nodes l.n) (length l.initial.steps)
    → Writing start l.initial.at most (nodes_of l.nodes l.n) (length l.initial.steps) l.steps l.at l.i
