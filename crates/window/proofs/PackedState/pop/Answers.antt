-- `window::PackedState::pop` meets its contract: the number is divided by 2 ^ 6.
use Rattle.std.specs.Prelude.{refl}
use Rattle.std.proofs.Common.{ap, arith, lit<}
use Rattle.std.proofs.Math.Path.{◌∙◌}
use Prim.Native.Nat.{ℕ, ◌^◌, ◌/◌, ◌<◌}
use Rattle.window.specs.Pack.{pack}
use Rattle.window.specs.Laws.{tail_of}
use Rattle.window.specs.State.{whole}
use Rattle.window.proofs.Halves.{shr_fits, shr_whole}
use Rattle.window.proofs.PackedState.pop.Goals as goal

pub overflow_add-result : goal.overflow_add-result
overflow_add-result c =
    let s = c.args.self in
    let l : s.lo < 2 ^ 64 = omega arith in
    record { fits = shr_fits (2 ^ 6) (2 ^ 58) (2 ^ 64) (lit< tt) (lit< tt) refl s.hi s.lo l }

pub returns : goal.returns
unfolding whole
returns c = λ k xs h.
    let s = c.args.self in
    record {
      keys = h.keys.1;
      value =
          shr_whole (2 ^ 6) (2 ^ 58) (2 ^ 64) (lit< tt) (lit< tt) refl s.hi s.lo
          ∙ ap (λ (v : ℕ). v / 2 ^ 6) h.value
          ∙ tail_of 6 k (pack 6 xs) h.keys.0;
    }
