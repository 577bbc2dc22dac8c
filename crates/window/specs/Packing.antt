-- What the public packing call answers, over the width of a key and the greatest length.
use Rattle.std.specs.Prelude.{ℕ, ◌-◌, ◌/◌, ◌%◌, ◌^◌, List, Result, Ok, Err, eqb, ltb, length}
use Rattle.costs.specs.Choice.{◌if◌otherwise◌}
use Rattle.costs.specs.Refusal.{number_of}
use Rattle.costs.specs.declared.Refusal.{Refusal}
use Rattle.costs.specs.Table.{any_over}
use Rattle.window.specs.declared.PackedState.{PackedState}
use Rattle.window.specs.declared.Packing.{Packing}
use Rattle.window.specs.Pack.{pack}

-- the rows of document 01's refusal table that packing can give: 5 key, 6 length; 0 if none applies
unfoldable pub pack_refusal : (w limit : ℕ) → List ℕ → ℕ
pack_refusal w limit ids =
    5 if any_over (2 ^ w - 1) ids otherwise
    6 if ltb limit (length ids) otherwise
    0

-- the two halves of the packed window, both zero beside a refusal (document 01, "packing returns")
unfoldable pub packing : (w limit : ℕ) → List ℕ → Packing
packing w limit ids =
    record { refusal = 0; lo = pack w ids % 2 ^ 64; hi = pack w ids / 2 ^ 64 } if eqb (pack_refusal w limit ids) 0 otherwise
    record { refusal = pack_refusal w limit ids; lo = 0; hi = 0 }

-- the halves of a window, or the number of a refusal
abbrev pub packing_of : Result PackedState Refusal → Packing
packing_of (Ok s) = record { refusal = 0; lo = s.lo; hi = s.hi }
packing_of (Err r) = record { refusal = number_of r; lo = 0; hi = 0 }
