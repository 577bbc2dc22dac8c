use Rattle.std.proofs.Common.{arith, refl}
use Rattle.desk_text.proofs.Printing.{steps_start, steps_more, steps_same}
use Rattle.desk_text.proofs.print.put_steps.Goals as goal
use Rattle.desk_text.proofs.print.put_steps.Goals.{in-Ok, in_default}

pub loop-code-init : goal.loop-code-init
loop-code-init c = record { so_far = steps_start _ _ (omega arith); room = omega arith }

pub loop-code-preserved : goal.loop-code-preserved
loop-code-preserved c =
    let so_far = c.loop-code.invariant.so_far in
    elim c.match-try_from.branch [
      | in-Ok w ↦ record {
        so_far =
            rw (w.out-is, w.next-is)
            (steps_more _ _ _ _ _ _ _ c.loop-code-test.true refl so_far _ _ _ w.in-Ok.ensures (rw (w.as_str.ensures.value, w.step_line.ensures) at w.put-next.ensures));
        room = omega (arith, w.put-next.ensures.place, w.as_str.ensures.fits);
      }
      | in_default w ↦ record {
        so_far = rw (w.out-is, w.next-is) (steps_same _ _ _ _ _ _ _ c.loop-code-test.true refl so_far w.in_default.ensures);
        room = omega arith;
      }
    ]
