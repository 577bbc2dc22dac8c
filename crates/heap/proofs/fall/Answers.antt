use Rattle.std.proofs.Common.{◌<◌, ◌≤◌, arith}
use Rattle.std.proofs.lemmas.Grind.{common_steps}
use Rattle.heap.specs.Heap.{digit, key_of}
use Rattle.heap.proofs.Sift.{falls_step, falls_done, falls_end}
use Rattle.heap.proofs.fall.Goals as goal
use Rattle.heap.proofs.fall.Goals.{else-loop-i-test, then-loop-i-test+then-le}

pub loop-i-preserved : goal.loop-i-preserved
unfolding digit
loop-i-preserved c =
    let less : key_of c.load-below.result < key_of c.args.e = grind (arith, common_steps) in
    search falls_step

pub returns-clause-heap : goal.returns-clause-heap
unfolding digit
returns-clause-heap c =
    elim c.loop-i-test.branch [
      | else-loop-i-test w ↦ search falls_end
      | then-loop-i-test+then-le w ↦
          let more : key_of c.args.e ≤ key_of w.load-below.result = grind (arith, common_steps) in
          search falls_done
    ]
