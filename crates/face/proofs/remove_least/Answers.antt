-- A turn of the code is a turn of the scan, and where it ends k is the place of the least.
use Rattle.std.proofs.Common.{◌≡◌, ◌<◌, ◌+◌, ◌-◌, sym, ap, ◌∙◌, arith, subst, ℕ, set}
use Rattle.face.specs.Open.{at, lesser_at, least_from, least_at}
use Rattle.face.specs.Laws.{least_step, least_stop, lesser_below}
use Rattle.face.proofs.remove_least.Goals as goal

pub loop-i-preserved : goal.loop-i-preserved
loop-i-preserved c =
    let s = c.args.open.now in
    let k = c.loop-i.k in
    let i = c.loop-i.i in
    let n = c.args.len in
    let is : c.lesser-k.result ≡ lesser_at (at s k) (at s i) k i = c.lesser-k.ensures in
    record {
      behind = subst (λ (j : ℕ). j < i + 1) (sym is) (lesser_below (at s k) (at s i) k i c.loop-i.invariant.behind);
      upto = omega arith;
      room = omega arith;
      finds = ap (λ (j : ℕ). least_from s j (i + 1) (n - (i + 1))) is ∙ sym (least_step s k i n c.loop-i-test.true) ∙ c.loop-i.invariant.finds;
    }

pub returns : goal.returns
returns c =
    let s = c.args.open.now in
    let n = c.args.len in
    let is : c.loop-i.k ≡ least_at s n = sym (least_stop s c.loop-i.k c.loop-i.i n c.loop-i-test.false) ∙ c.loop-i.invariant.finds in
    record { least = ap (at s) is; list = ap (λ (j : ℕ). set s j (at s (n - 1))) is }
