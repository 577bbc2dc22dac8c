use Rattle.successors.specs.Successors.{swap_at}
use Rattle.successors.proofs.Asked.expand_keys.Given as goal

abbrev pub ghost-put_each : goal.ghost-put_each
ghost-put_each a = swap_at a.offered.1.now a.offered.0.now.cfg.dup_max a.offered.2.now a.offered.3.now
