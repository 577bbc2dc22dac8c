-- The steps so far stand in the buffer, and there is room for the others.
use Rattle.std.proofs.Common.{◌+◌, ◌*◌, ◌≤◌, take}
use Rattle.desk_text.specs.Text.{steps_text}
use Rattle.desk_text.specs.Put.{Put}
use Rattle.desk_text.proofs.print.put_steps.Given as goal

abbrev pub invariant-loop-code : goal.invariant-loop-code
invariant-loop-code l = record {
  so_far : Put l.initial.out l.at (steps_text (take l.code-index l.steps)) l.out l.next;
  room : l.next ≤ l.at + 29 * l.code-index;
}
