-- `window::PackedState::len` meets its contract: the highest bit of the upper half, or else of the lower, is the marker.
use Rattle.std.proofs.Common.{arith}
use Prim.Native.Nat.{◌^◌, ◌<◌}
use Rattle.std.proofs.Math.Path.{◌≡◌}
use Rattle.std.specs.Int.Count.{leading_le}
use Rattle.window.proofs.Tops.{mark_of_hi, mark_of_lo}
use Rattle.window.proofs.PackedState.len.Goals as goal
use Rattle.window.proofs.PackedState.len.Goals.{then-hi-gt0, else-hi-gt0}

pub overflow_sub-mark : goal.overflow_sub-mark
overflow_sub-mark c = omega (arith, leading_le 64 c.args.self.hi)

pub overflow_sub-mark-else-hi-gt0 : goal.overflow_sub-mark-else-hi-gt0
overflow_sub-mark-else-hi-gt0 c =
    let p = c.requires in
    (mark_of_lo 6 c.args.self p.0 p.1 (omega arith) (omega arith)).0

pub returns : goal.returns
returns c = λ xs h.
    let s = c.args.self in
    let f : s.hi < 2 ^ 64 = omega arith in
    let g : s.lo < 2 ^ 64 = omega arith in
    elim c.if-hi-gt0.branch [
      | then-hi-gt0 w ↦ omega (arith, w.mark-is, mark_of_hi 6 s xs h w.if-hi-gt0.true f g)
      | else-hi-gt0 w ↦ let z : s.hi ≡ 0 = omega arith in omega (arith, w.mark-is, (mark_of_lo 6 s xs h z g).1)
    ]
