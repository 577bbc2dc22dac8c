-- The line has the numbers so far, and there is room for the others.
use Rattle.std.proofs.Common.{◌≡◌, ◌++◌, ◌*◌, ◌≤◌, length, drop}
use Rattle.desk_text.specs.Text.{line_text}
use Rattle.desk_text.proofs.print.number_line.Given as goal

abbrev pub invariant-loop-i : goal.invariant-loop-i
invariant-loop-i l = record {
  so_far : line_text l.numbers ≡ l.line.bytes ++ line_text (drop l.i l.numbers);
  room : length l.line.bytes ≤ 21 * l.i;
}
