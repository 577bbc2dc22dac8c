-- `window::PackedState::get` meets its contract: the six bits from bit 6 * idx on.
use Rattle.std.proofs.Math.Path.{◌∙◌}
use Rattle.std.specs.Prelude.{length}
use Rattle.std.proofs.Common.{ap, arith}
use Prim.Native.Nat.{ℕ, ◌*◌, ◌/◌, ◌%◌, ◌^◌, ◌≤◌}
use Rattle.std.proofs.Math.Pow.{mod-mod-pow}
use Rattle.window.specs.State.{whole}
use Rattle.window.proofs.Tops.{upper_lt, held_fits, held_digit}
use Rattle.window.proofs.PackedState.get.Lts
use Rattle.window.proofs.PackedState.get.Reads
use Rattle.window.proofs.PackedState.get.Tie
use Rattle.window.proofs.PackedState.get.Goals as goal

short : (c : Lts.Start Tie.the-claims Reads.Pre Reads.Post) → length c.requires.0 ≤ 21
short c = omega (arith, held_fits 6 c.args.self c.requires.0 c.requires.1 (omega arith) (omega arith))

pub overflow_mul-idx : goal.overflow_mul-idx
overflow_mul-idx c = omega (arith, short c)

pub overflow_cast-idx : goal.overflow_cast-idx
overflow_cast-idx c = omega (arith, short c)

pub bits_at-requires : goal.bits_at-requires
bits_at-requires c = (omega (arith, short c), upper_lt 6 c.args.self c.requires.0 c.requires.1 63 (omega (arith, short c)))

pub returns : goal.returns
returns c = λ xs h l.
    let a = c.args in ap (λ (v : ℕ). v % 2 ^ 6) c.bits_at.ensures
    ∙ mod-mod-pow (whole a.self / 2 ^ (a.idx * 6)) 58 6
    ∙ held_digit 6 a.self xs h a.idx l
