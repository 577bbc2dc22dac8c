use Rattle.std.specs.Prelude.{ltb}
use Rattle.costs.proofs.prices_fault.Given as goal

abbrev pub ghost-any_entry : goal.ghost-any_entry
ghost-any_entry a = λ price. ltb 30000 price
