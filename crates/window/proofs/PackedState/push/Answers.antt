-- `window::PackedState::push` meets its contract: the number is multiplied by 2 ^ 6, and the key added.
use Rattle.std.proofs.Math.Path.{◌∙◌}
use Rattle.std.specs.Prelude.{refl}
use Rattle.std.proofs.Common.{ap, arith, lit<}
use Prim.Native.Nat.{ℕ, ◌+◌, ◌*◌, ◌^◌, ◌<◌}
use Rattle.std.proofs.Math.Nat.{add_comm, mul_comm}
use Rattle.window.specs.Pack.{pack}
use Rattle.window.specs.State.{whole}
use Rattle.window.proofs.Halves.{shl_fits, shl_whole}
use Rattle.window.proofs.Tops.{upper_lt}
use Rattle.window.proofs.PackedState.push.Lts
use Rattle.window.proofs.PackedState.push.Reads
use Rattle.window.proofs.PackedState.push.Goals as goal

-- a window with room leaves the upper half below 2 ^ 57
room : (c : Lts.Start Reads.Pre Reads.Post) → c.args.self.hi < 2 ^ 57
room c = upper_lt 6 c.args.self c.requires.0.0 c.requires.0.1 57 (omega arith)

pub overflow_mul-result : goal.overflow_mul-result
overflow_mul-result c = omega (arith, room c.before)

pub overflow_add-result : goal.overflow_add-result
overflow_add-result c =
    let l : c.args.self.lo < 2 ^ 64 = omega arith in
    omega (arith, room c.before.before)

pub overflow_add-result-2 : goal.overflow_add-result-2
overflow_add-result-2 c =
    record { fits = shl_fits (2 ^ 6) (2 ^ 58) (2 ^ 64) (lit< tt) (lit< tt) refl c.args.self.lo c.args.key c.requires.1 }

pub returns : goal.returns
unfolding whole
returns c = λ xs h.
    record {
      keys = (c.requires.1, h.keys);
      value =
          shl_whole (2 ^ 6) (2 ^ 58) (2 ^ 64) (lit< tt) (lit< tt) refl c.args.self.hi c.args.self.lo c.args.key
          ∙ ap (λ (v : ℕ). v * 2 ^ 6 + c.args.key) h.value
          ∙ add_comm (pack 6 xs * 2 ^ 6) c.args.key ∙ ap (λ (v : ℕ). c.args.key + v) (mul_comm (pack 6 xs) (2 ^ 6));
    }
