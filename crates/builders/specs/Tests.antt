-- The kind of a key that is no immediate.
use Rattle.std.specs.Prelude.{ℕ, ◌<◌, ◌≤◌, Bool, true, false, not, ◌&&◌, ◌||◌, List, ◌≡◌, length, get_or, eqb, ltb}
use Rattle.std.proofs.Common.{arith, eq-eqb, lt-ltb}
use Rattle.std.proofs.lemmas.Bool.{eqb-false}
use Rattle.costs.specs.Laws.{or_left}
use Rattle.star_swap.specs.Tests.{or_right, over_none}
use Rattle.costs.specs.Table.{any_over, count_of, kinds_fault}
use Rattle.replay.specs.Machine.{immediate, value}

-- by kinds without a fault, a key that is no immediate is a value
pub kind_value : (kinds : List ℕ) (k : ℕ) → kinds_fault kinds ≡ false → length kinds ≡ 64 → k < 64 → immediate kinds k ≡ false → value kinds k ≡ true
unfolding kinds_fault immediate value
kind_value kinds k f n l h =
    let a : Bool = not (eqb (length kinds) 64) in
    let b : Bool = any_over 2 kinds in
    let c : Bool = ltb 1 (count_of 2 kinds) in
    let low : get_or kinds k 0 ≤ 2 = over_none 2 kinds (or_right a b (or_left (a || b) c f)) k (omega arith) in
    let t : ltb k 64 ≡ true = lt-ltb k 64 l in
    let h₁ : (ltb k 64 && (eqb (get_or kinds k 0) 1 || eqb (get_or kinds k 0) 2)) ≡ false = h in
    let g : (eqb (get_or kinds k 0) 1 || eqb (get_or kinds k 0) 2) ≡ false = rw t at h₁ in
    let x : get_or kinds k 0 ≡ 1 → ⊥ = eqb-false _ _ (or_left (eqb (get_or kinds k 0) 1) (eqb (get_or kinds k 0) 2) g) in
    let y : get_or kinds k 0 ≡ 2 → ⊥ = eqb-false _ _ (or_right (eqb (get_or kinds k 0) 1) (eqb (get_or kinds k 0) 2) g) in
    rw (t, eq-eqb (get_or kinds k 0) 0 (omega arith))
