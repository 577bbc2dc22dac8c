-- The keys' bytes so far, and zeros behind them.
use Rattle.std.proofs.Common.{◌≡◌, map, take}
use Rattle.desk_text.specs.Padded.{padded}
use Rattle.desk_text.specs.Question.{key_of}
use Rattle.desk_text.proofs.read.key_bytes.Given as goal

abbrev pub invariant-loop-i : goal.invariant-loop-i
invariant-loop-i l = l.bytes ≡ padded (map key_of (take l.i l.numbers))
