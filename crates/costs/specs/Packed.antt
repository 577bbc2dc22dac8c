-- A cost as one number of the work lists.
use Rattle.std.specs.Prelude.{ℕ, ◌+◌, ◌*◌, ◌/◌, ◌%◌, ◌<◌, ◌≡◌}
use Rattle.std.proofs.Common.{arith}
use Rattle.costs.specs.declared.Cost.{Cost}

-- gas times 2 ^ 32 plus bytes: numbers compare as costs do, by gas, then bytes
unfoldable pub cost_of : ℕ → Cost
cost_of c = record { gas = c / 4294967296; bytes = c % 4294967296 }

-- the number of a cost stands for that cost
pub packed_back : (g b : ℕ) → b < 4294967296 → cost_of (g * 4294967296 + b) ≡ record { gas = g; bytes = b }
unfolding cost_of
packed_back g b h =
    let p : (g * 4294967296 + b) / 4294967296 ≡ g = omega arith in
    let q : (g * 4294967296 + b) % 4294967296 ≡ b = omega arith in
    rw (p, q)
