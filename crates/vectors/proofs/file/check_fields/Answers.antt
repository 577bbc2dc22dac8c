-- What is left of the fields decides whether all are known.
use Rattle.std.proofs.Common.{◌≡◌, ℕ, suc, ◌+◌, ◌-◌, get_or, sym, subst, arith}
use Rattle.vectors.specs.File.{Known}
use Rattle.vectors.specs.Laws.{known_more, known_all}
use Rattle.vectors.proofs.file.check_fields.Goals as goal

pub loop-preserved : goal.loop-preserved
loop-preserved c =
    let l = c.loop in
    let n = c.short-end.result in
    let rec = c.args.rec.now in
    let m = n - (l.counter + 1) in
    let s : n - l.counter ≡ suc m = omega arith in
    let field = c.is_known.ensures c.if-not-is_known.false in (
      l.invariant.0,
      omega (arith, c.entries_size.ensures.1),
      λ k.
          let tagged = subst (λ (t : ℕ). Known m rec (l.at + (4 + c.entries_size.result)) t) c.byte-last.ensures k in
          let placed = subst (λ (p : ℕ). Known m rec (l.at + (4 + p)) (get_or rec l.at 0)) c.entries_size.ensures.0 tagged in
          l.invariant.2 (subst (λ (d : ℕ). Known d rec l.at l.last) (sym s) (known_more m rec l.at l.last field placed)),
    )

pub returns : goal.returns
returns c =
    let l = c.loop in
    let n = c.short-end.result in
    let rec = c.args.rec.now in
    let z : n - l.counter ≡ 0 = omega arith in
    l.invariant.2 (subst (λ (d : ℕ). Known d rec l.at l.last) (sym z) (known_all rec l.at l.last c.if-at-rec.false))
