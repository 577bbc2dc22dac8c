use Rattle.desk.proofs.Bytes.{written_front, written_kept}
use Rattle.desk.proofs.put_all.Goals as goal

pub returns-then-is_empty-clause-front : goal.returns-then-is_empty-clause-front
returns-then-is_empty-clause-front g c = written_front _ _ _ _ c.loop.invariant

pub returns-in_err-count-clause-front : goal.returns-in_err-count-clause-front
returns-in_err-count-clause-front g c = written_front _ _ _ _ (written_kept _ _ _ _ _ c.loop.invariant c.in_err-count.ensures.bytes)

pub returns-clause-front : goal.returns-clause-front
returns-clause-front g c = written_front _ _ _ _ c.loop.invariant
