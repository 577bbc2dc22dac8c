-- What is left of the fields decides where the tag is.
use Rattle.std.proofs.Common.{◌≡◌, ℕ, suc, ◌+◌, ◌-◌, get_or, sym, ap, ◌∙◌, arith}
use Rattle.vectors.specs.File.{place_of, entries_size}
use Rattle.vectors.specs.Laws.{place_here, place_on, place_none}
use Rattle.vectors.proofs.file.place.Goals as goal

pub returns-then-byte-tag : goal.returns-then-byte-tag
returns-then-byte-tag c =
    let l = c.loop in
    let n = c.short-end.result in
    let a = c.args in
    let s : n - l.counter ≡ suc (n - (l.counter + 1)) = omega arith in
    let here : get_or a.rec.now l.at 0 ≡ a.tag = sym c.byte.ensures ∙ c.if-byte-tag.true in (
      sym (place_here (n - (l.counter + 1)) a.rec.now a.tag l.at here) ∙ sym (ap (λ (k : ℕ). place_of k a.rec.now a.tag l.at) s) ∙ l.invariant.2,
      omega arith,
    )

pub loop-preserved : goal.loop-preserved
loop-preserved c =
    let l = c.loop in
    let n = c.short-end.result in
    let a = c.args in
    let m = n - (l.counter + 1) in
    let s : n - l.counter ≡ suc m = omega arith in
    let size : c.entries_size.result ≡ entries_size a.rec.now l.at = c.entries_size.ensures.0 in (
      l.invariant.0,
      omega (arith, c.entries_size.ensures.1),
      ap (λ (k : ℕ). place_of m a.rec.now a.tag (l.at + (4 + k))) size ∙ sym (place_on m a.rec.now a.tag l.at (λ q. c.if-byte-tag.false (c.byte.ensures ∙ q))) ∙ sym (ap (λ (k : ℕ). place_of k a.rec.now a.tag l.at) s) ∙ l.invariant.2,
    )

pub returns : goal.returns
returns c =
    let l = c.loop in
    let n = c.short-end.result in
    let a = c.args in
    let z : n - l.counter ≡ 0 = omega arith in (
      sym (place_none a.rec.now a.tag l.at) ∙ sym (ap (λ (k : ℕ). place_of k a.rec.now a.tag l.at) z) ∙ l.invariant.2,
      omega arith,
    )
