-- `window::put_key` meets its contract.
use Rattle.std.proofs.Math.Path.{◌≡◌}
use Rattle.std.proofs.Common.{arith, lit<}
use Prim.Native.Nat.{◌+◌, ◌-◌, ◌*◌, ◌%◌, ◌^◌, ◌≤◌, ◌<◌}
use Rattle.std.proofs.Math.Pow.{pow_pos}
use Rattle.window.proofs.Put.{old_mod, new_mod, old_le, new_fits, word}
use Rattle.window.proofs.put_key.Lts
use Rattle.window.proofs.put_key.Reads
use Rattle.window.proofs.put_key.Goals as goal

-- the old digit and the new one at its place, and that there is room
shifted : (c : Lts.Start Reads.Pre Reads.Post) → (c.args.old * 2 ^ c.args.s % 2 ^ 64 ≡ c.args.old * 2 ^ c.args.s)
    × (c.args.new * 2 ^ c.args.s % 2 ^ 64 ≡ c.args.new * 2 ^ c.args.s)
    × (c.args.old * 2 ^ c.args.s ≤ c.args.word)
    × (c.args.word - c.args.old * 2 ^ c.args.s + c.args.new * 2 ^ c.args.s < 2 ^ 64)
shifted c =
    let a = c.args in let p = c.requires in
    let x : a.word < 2 ^ 64 = omega arith in
    let e = word a.s p.0 in
    rw p.1 (
      old_mod (2 ^ a.s) 64 (2 ^ (58 - a.s)) (2 ^ 64) (pow_pos a.s) (lit< tt) e a.word a.new x p.2,
      new_mod (2 ^ a.s) 64 (2 ^ (58 - a.s)) (2 ^ 64) (pow_pos a.s) (lit< tt) e a.word a.new x p.2,
      old_le (2 ^ a.s) 64 (2 ^ (58 - a.s)) (2 ^ 64) (pow_pos a.s) (lit< tt) e a.word a.new x p.2,
      new_fits (2 ^ a.s) 64 (2 ^ (58 - a.s)) (2 ^ 64) (pow_pos a.s) (lit< tt) e a.word a.new x p.2,
    )

pub overflow_sub-result : goal.overflow_sub-result
overflow_sub-result c = rw (shifted c).0 (shifted c).2

pub overflow_add-result : goal.overflow_add-result
overflow_add-result c = rw ((shifted c).0, (shifted c).1) (record { fits = (shifted c).3 })

pub returns : goal.returns
returns c = rw ((shifted c).0, (shifted c).1) (omega (arith, (shifted c).2))
