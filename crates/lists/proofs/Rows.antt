-- A node and its row stand for the same.
use Rattle.std.proofs.Common.{◌≡◌, ◌≤◌, ℕ, None, arith}
use Rattle.costs.specs.Step.{decoded}

-- a number of 65,536 or more is no code
pub decoded_over : (c : ℕ) → 65536 ≤ c → decoded c ≡ None
unfolding decoded
decoded_over c l = grind (arith)
