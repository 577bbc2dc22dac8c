use Rattle.std.proofs.Common.{◌+◌, ◌≤◌, suc, arith}
use Rattle.lists.specs.View.{nodes_of}
use Rattle.back.proofs.Steps.{Counting, counting_first, counted_here, counted_missing, counted_out, counting_on}
use Rattle.back.proofs.count_steps.Goals as goal

pub loop-k-init : goal.loop-k-init
loop-k-init c = search counting_first

pub returns-then-same : goal.returns-then-same
returns-then-same c = search counted_here

pub returns-in_err-up : goal.returns-in_err-up
returns-in_err-up c = rw c.from_residual.ensures (search (counted_missing, c.in_err-up.ensures))

pub loop-k-preserved : goal.loop-k-preserved
loop-k-preserved c = search (counting_on, c.in_ok-up.ensures)

pub returns-in_ok-up : goal.returns-in_ok-up
returns-in_ok-up c =
    let next : Counting c.args.start c.args.goal c.args.most (nodes_of c.args.nodes.now c.args.n) c.in_ok-up.up (c.loop-k.k + 1) = search (counting_on, c.in_ok-up.ensures) in
    let end : suc c.args.most ≤ c.loop-k.k + 1 = omega arith in
    search counted_out
