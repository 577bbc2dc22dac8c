use Rattle.std.proofs.Common.{◌<◌, ◌≤◌, arith}
use Rattle.std.proofs.lemmas.Grind.{common_steps}
use Rattle.heap.specs.Heap.{digit, key_of}
use Rattle.heap.proofs.Sift.{rises_first, rises_step, rises_done, rises_top, rises_sorted}
use Rattle.heap.proofs.push.Goals as goal
use Rattle.heap.proofs.push.Goals.{else-loop-i-test, then-loop-i-test+then-le}

pub loop-i-init : goal.loop-i-init
loop-i-init c = search rises_first

pub loop-i-preserved : goal.loop-i-preserved
unfolding digit
loop-i-preserved c =
    let less : key_of c.args.e < key_of c.load-above.result = grind (arith, common_steps) in
    search rises_step

pub returns-clause-heap_2 : goal.returns-clause-heap_2
unfolding digit
returns-clause-heap_2 c =
    elim c.loop-i-test.branch [
      | else-loop-i-test w ↦ search rises_top
      | then-loop-i-test+then-le w ↦
          let more : key_of w.load-above.result ≤ key_of c.args.e = grind (arith, common_steps) in
          search rises_done
    ]

pub returns-clause-len_after : goal.returns-clause-len_after
returns-clause-len_after c = search rises_sorted
