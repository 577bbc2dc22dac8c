use Rattle.std.proofs.Common.{◌+◌, ◌*◌, ◌≤◌, length, arith}
use Rattle.nodes.proofs.Lemmas.{wrote_row, updated_chained}
use Rattle.nodes.proofs.update.Goals as goal

pub returns : goal.returns
returns c =
    let room : c.args.i * 8 + 8 ≤ length c.args.nodes.now = omega arith in
    search (wrote_row, updated_chained)
