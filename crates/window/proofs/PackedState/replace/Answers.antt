-- `window::PackedState::replace` meets its contract: the digit at idx lies in the lower half, across the halves, or in the upper half.
use Rattle.std.proofs.Math.Path.{◌≡◌, ◌∙◌}
use Rattle.std.specs.Prelude.{List, length}
use Rattle.std.proofs.Common.{sym, ap, arith}
use Prim.Native.Nat.{ℕ, ◌-◌, ◌*◌, ◌/◌, ◌%◌, ◌^◌, ◌≤◌, ◌<◌}
use Rattle.std.proofs.Math.ListN.{get_or}
use Rattle.window.specs.State.{Held, whole}
use Rattle.window.proofs.Halves.{far}
use Rattle.window.proofs.Put.{near, across_set, upper_set}
use Rattle.window.proofs.Tops.{held_fits, held_digit, held_set}
use Rattle.window.proofs.PackedState.replace.Lts
use Rattle.window.proofs.PackedState.replace.Reads
use Rattle.window.proofs.PackedState.replace.Tie
use Rattle.window.proofs.PackedState.replace.Goals as goal

short : (c : Lts.Start Tie.the-claims Reads.Pre Reads.Post) → length c.requires.0.0 ≤ 21
short c = omega (arith, held_fits 6 c.args.self c.requires.0.0 c.requires.0.1 (omega arith) (omega arith))

lower : (c : Lts.Start Tie.the-claims Reads.Pre Reads.Post) → c.args.self.lo < 2 ^ 64
lower c = omega arith

high_place : (c : Lts.Else2 Tie.the-claims Reads.Pre Reads.Post) → 64 ≤ c.args.idx * 6
high_place c = omega arith

low_shift : (c : Lts.Else2 Tie.the-claims Reads.Pre Reads.Post) → c.args.idx * 6 - 64 ≤ 58
low_shift c = omega (arith, short c.before.before)

-- the key that is replaced is the digit, and that of each window held
old : (c : Lts.Start Tie.the-claims Reads.Pre Reads.Post) → c.args.was ≡ whole c.args.self / 2 ^ (c.args.idx * 6) % 64
old c = let p = c.requires.0 in p.3 ∙ sym (held_digit 6 c.args.self p.0 p.1 c.args.idx p.2)

same : (c : Lts.Start Tie.the-claims Reads.Pre Reads.Post) (xs : List ℕ) → Held 6 c.args.self xs → c.args.idx < length xs → c.args.was ≡ get_or xs c.args.idx 0
same c xs h l = old c ∙ held_digit 6 c.args.self xs h c.args.idx l

pub put_key-requires : goal.put_key-requires
unfolding whole
put_key-requires c =
    let a = c.args in let l : a.idx * 6 ≤ 58 = omega arith in
    (l, old c.before ∙ near a.self.hi a.self.lo (a.idx * 6) l, c.requires.1)

pub overflow_mul-idx-else-idx-eq10 : goal.overflow_mul-idx-else-idx-eq10
overflow_mul-idx-else-idx-eq10 c = omega (arith, short c.before.before)

pub overflow_cast-idx-else-idx-eq10 : goal.overflow_cast-idx-else-idx-eq10
overflow_cast-idx-else-idx-eq10 c = omega (arith, short c.before.before)

pub put_key-requires-else-idx-eq10 : goal.put_key-requires-else-idx-eq10
unfolding whole
put_key-requires-else-idx-eq10 c =
    let a = c.args in (
      low_shift c,
      old c.before.before ∙ ap (λ (v : ℕ). v % 64) (far a.self.hi a.self.lo (a.idx * 6) (high_place c) (lower c.before.before)),
      c.requires.1,
    )

pub returns-then-idx-lt10 : goal.returns-then-idx-lt10
unfolding whole
returns-then-idx-lt10 c = λ xs h l.
    held_set 6 c.args.self xs h _ c.args.idx c.args.key l c.requires.1
    (rw (← same c.before.before xs h l) (omega (arith, c.put_key.ensures)))

pub returns-then-idx-eq10 : goal.returns-then-idx-eq10
unfolding whole
returns-then-idx-eq10 c = λ xs h l.
    let a = c.args in let e : a.idx * 6 ≡ 60 = ap (λ (i : ℕ). i * 6) c.if-idx-eq10.true in
    held_set 6 a.self xs h _ a.idx a.key l c.requires.1
    (rw (← same c.before.before xs h l, e)
    (across_set a.self.hi a.self.lo a.key a.was (lower c.before.before)
    (old c.before.before ∙ ap (λ (i : ℕ). whole a.self / 2 ^ i % 64) e)))

pub returns-else-idx-eq10 : goal.returns-else-idx-eq10
unfolding whole
returns-else-idx-eq10 c = λ xs h l.
    let a = c.args in held_set 6 a.self xs h _ a.idx a.key l c.requires.1
    (rw (← same c.before.before.before xs h l)
    (upper_set c.put_key-else-idx-eq10.result a.self.hi a.self.lo a.was a.key (a.idx * 6) (high_place c.before) c.put_key-else-idx-eq10.ensures))
