-- What is left of the fields decides where the tag is.
use Rattle.std.proofs.Common.{◌≡◌, ◌+◌, ◌-◌, ◌*◌, ◌<◌, ◌≤◌}
use Rattle.vectors.specs.File.{place_of, short_at}
use Rattle.vectors.proofs.file.place.Given as goal

abbrev pub invariant-loop : goal.invariant-loop
invariant-loop l = (l.end < 65536) × (l.at ≤ 8 + 16777220 * l.counter) × (place_of (l.end - l.counter) l.rec l.tag l.at ≡ place_of (short_at l.rec 6) l.rec l.tag 8)
