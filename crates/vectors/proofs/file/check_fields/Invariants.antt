-- What is left of the fields decides whether all are known.
use Rattle.std.proofs.Common.{◌+◌, ◌-◌, ◌*◌, ◌<◌, ◌≤◌}
use Rattle.vectors.specs.File.{short_at, Known}
use Rattle.vectors.proofs.file.check_fields.Given as goal

abbrev pub invariant-loop : goal.invariant-loop
invariant-loop l = (l.end < 65536) × (l.at ≤ 8 + 16777220 * l.counter) × (Known (l.end - l.counter) l.rec l.at l.last → Known (short_at l.rec 6) l.rec 8 0)
