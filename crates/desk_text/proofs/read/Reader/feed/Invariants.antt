-- The reader with what is left of the piece decides.
use Rattle.std.proofs.Common.{◌≡◌, length}
use Rattle.desk_text.specs.Machine.{fed_all}
use Rattle.desk_text.specs.Noted.{noted}
use Rattle.desk_text.proofs.read.Reader.feed.Given as goal

abbrev pub invariant-loop-b : goal.invariant-loop-b
invariant-loop-b l = (fed_all (noted l.initial.reader l.initial.list) l.piece ≡ fed_all (noted l.reader l.list) l.rest) × (length l.list ≡ 192)

abbrev pub decreases-loop-b : goal.decreases-loop-b
decreases-loop-b l = length l.rest
