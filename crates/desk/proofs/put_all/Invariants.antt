-- The text is written but for the rest.
use Rattle.desk.proofs.Bytes.{Written}
use Rattle.desk.proofs.put_all.Given as goal

abbrev pub invariant-loop : goal.invariant-loop
invariant-loop g l = Written (g.W.Write.contents l.initial.output) (g.W.Write.contents l.output) l.text l.rest
