use Rattle.std.proofs.Common.{ap, arith, le-ltb}
use Rattle.std.specs.Prelude.{◌≡◌, [], false, ltb}
use Rattle.replay.specs.Machine.{Rules}
use Rattle.planner.specs.Refusal.{over_length}
use Rattle.planner.proofs.over_length.Goals as goal

pub returns-else-given-n : goal.returns-else-given-n
unfolding over_length
returns-else-given-n c =
    let near : ltb c.args.given.cfg.swap_max c.args.n ≡ false = le-ltb _ _ (omega (arith, c.if-given-n.false)) in
    rw near (ap (λ (q : Rules). ltb q.max_len c.args.n) (c.narrowed-narrow.ensures []))
