-- The first place at which the test passes is the position.
use Rattle.std.specs.Prelude.{ℕ, Bool, true, false, List, ◌≡◌, ◌<◌, Some, None, length, get_or, position}
use Rattle.std.specs.List.{position_or_len}
use Rattle.std.proofs.Common.{ap, ◌∙◌, arith, lt-ltb, le-ltb, eq-eqb}
use Rattle.std.proofs.lemmas.List.Sums.{position_or_len_is}
use Rattle.window.specs.Keys.{keys_of}
use Rattle.builders.specs.Draft.{Draft}
use Rattle.builders.proofs.Work.place_of.Goals as goal

module _ (t : ℕ → Bool) (w : List ℕ) (i : ℕ) (before : (k : ℕ) → k < i → t (get_or w k 0) ≡ false) where
  here : i < length w → t (get_or w i 0) ≡ true → Some i ≡ position t w
  here l e =
      let p : position_or_len t w ≡ i = position_or_len_is t w i 0 (omega arith) before (λ _. e) in
      rw (p, lt-ltb i (length w) l)

  nowhere : i ≡ length w → None ≡ position t w
  nowhere e =
      let p : position_or_len t w ≡ i = position_or_len_is t w i 0 (omega (arith, e)) before (λ l. absurd (omega (arith, e, l))) in
      rw (p, le-ltb i (length w) (omega (arith, e)))

pub returns-then-key-get : goal.returns-then-key-get
returns-then-key-get c =
    let v : keys_of c.self.inside.state ≡ c.args.self.now.window = ap (λ (p : Draft). p.window) c.self.view_is in
    let l : c.loop-i.i < length c.args.self.now.window = omega (arith, c.loop-i-test.true, c.len-i-end.ensures.value) in
    let g : c.get.result ≡ get_or c.args.self.now.window c.loop-i.i 0 =
    c.get.ensures _ c.self.invariant (omega (arith, l, ap length v)) ∙ ap (λ (w : List ℕ). get_or w c.loop-i.i 0) v in
    here _ _ _ c.loop-i.invariant l (eq-eqb _ _ (c.if-key-get.true ∙ g))

pub returns : goal.returns
returns c =
    let e : c.loop-i.i ≡ length c.args.self.now.window = omega (arith, c.loop-i-test.false, c.loop-i.auto.i-end, c.len-i-end.ensures.value) in
    nowhere _ _ _ c.loop-i.invariant e
