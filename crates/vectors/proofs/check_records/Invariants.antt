-- The place stays in the file, and the records are few enough to count.
use Rattle.std.proofs.Common.{◌≡◌, length}
use Rattle.vectors.specs.File.{Reading}
use Rattle.vectors.proofs.check_records.Given as goal

abbrev pub invariant-loop-record : goal.invariant-loop-record
invariant-loop-record l = Reading (length l.bytes) l.record-end l.at l.tally.records l.tally.wrong × (l.tally.records ≡ l.record)
