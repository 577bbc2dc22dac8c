-- What a question has to keep to, and its table.
use Rattle.std.specs.Prelude.{◌≡◌, false, ℕ, List}
use Rattle.costs.specs.Table.{prices_fault}
use Rattle.replay.specs.declared.rules.SearchCfg.{SearchCfg}
use Rattle.heuristic.specs.Heuristic.{least_dup}
use Rattle.heuristic.specs.Counts.{Counted}
use Rattle.successors.specs.Successors.{firsts}
use Rattle.successors.specs.Limits.{Bounds}
use Rattle.successors.specs.Whole.{asked}
use Rattle.table.specs.declared.Table.{Table}

-- a question that no number refuses, as far as the search needs it
pub record Accepted (cfg : SearchCfg) (kinds prices goal : List ℕ) : Type 0 where
  pub bounds : Bounds (asked cfg kinds prices goal)
  pub listed : prices_fault prices ≡ false

-- the table is the question's
pub record Prepared (cfg : SearchCfg) (prices goal : List ℕ) (t : Table) : Type 0 where
  pub wanted : Counted t.want goal
  pub keys_are : t.keys.items ≡ firsts goal
  pub least : t.dup ≡ least_dup prices cfg.dup_max
