use Rattle.std.specs.Prelude.{ltb}
use Rattle.costs.proofs.any_over.Given as goal

abbrev pub ghost-any_entry : goal.ghost-any_entry
ghost-any_entry a = λ byte. ltb a.test.0.now byte
