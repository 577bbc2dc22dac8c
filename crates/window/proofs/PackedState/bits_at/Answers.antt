-- `window::PackedState::bits_at` meets its contract.
use Rattle.std.proofs.Common.{sym, arith}
use Prim.Native.Nat.{◌-◌, ◌*◌, ◌^◌, ◌<◌}
use Rattle.std.proofs.Math.Nat.{mul_assoc, mod-eq_of_lt, lt_of_le_of_lt, div-le_self}
use Rattle.std.proofs.Math.Pow.{pow_pos}
use Rattle.window.specs.State.{whole}
use Rattle.window.proofs.Halves.{shr_fits, shr_low, factors, two_pos, far}
use Rattle.window.proofs.PackedState.bits_at.Goals as goal

pub overflow_add-result : goal.overflow_add-result
overflow_add-result c =
    let a = c.args in rw (mul_assoc a.self.hi 2 (2 ^ (63 - a.s)))
    (record { fits = shr_fits (2 ^ a.s) (2 * 2 ^ (63 - a.s)) (2 ^ 64) (pow_pos a.s) (two_pos (63 - a.s)) (factors a.s c.if-s-lt64.true) a.self.hi a.self.lo (omega arith) })

pub returns-then-s-lt64 : goal.returns-then-s-lt64
unfolding whole
returns-then-s-lt64 c =
    let a = c.args in rw (mul_assoc a.self.hi 2 (2 ^ (63 - a.s)))
    (shr_low (2 ^ a.s) (2 * 2 ^ (63 - a.s)) (2 ^ 64) (pow_pos a.s) (two_pos (63 - a.s)) (factors a.s c.if-s-lt64.true) a.self.hi a.self.lo (omega arith))

pub returns-else-s-lt64 : goal.returns-else-s-lt64
unfolding whole
returns-else-s-lt64 c =
    let a = c.args in let g : a.self.lo < 2 ^ 64 = omega arith in
    let f : a.self.hi < 2 ^ 64 = omega arith in
    rw (far a.self.hi a.self.lo a.s c.if-s-lt64.false g)
    (sym (mod-eq_of_lt (lt_of_le_of_lt (div-le_self a.self.hi (2 ^ (a.s - 64))) f)))
