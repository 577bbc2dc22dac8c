-- Problems whose steps are codes.
use Rattle.std.specs.Prelude.{List, [], ℕ}
use Rattle.std.specs.Prelude.{Option}
use Rattle.costs.specs.declared.Cost.{Cost}
use Rattle.costs.specs.Packed.{cost_of}
use Rattle.algebra.specs.GasBytes.{gas_bytes}
use Rattle.astar.specs.Search.{Problem, Succ}

-- what such a problem says beside its start and its goal
pub record Rules : Type 0 where
  pub est : ℕ → Cost
  pub after : ℕ → Option ℕ → List (Succ Cost ℕ)

abbrev pub coded : Rules → ℕ → ℕ → Problem gas_bytes
coded R start goal = record { Step = ℕ; start = start; goal = goal; est = R.est; after = R.after }

-- a problem of which only the estimate matters, and that of one state
abbrev pub estimated : Cost → Problem gas_bytes
estimated e = coded (record { est = λ v. e; after = λ v q. [] }) 0 0

-- a problem of which only the start and the goal matter
abbrev pub bare : ℕ → ℕ → Problem gas_bytes
bare start goal = coded (record { est = λ v. cost_of 0; after = λ v q. [] }) start goal
