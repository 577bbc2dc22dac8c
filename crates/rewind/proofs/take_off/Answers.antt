-- The top key taken off, and the step tested on what is below.
use Rattle.std.proofs.Common.{sym, ap, arith, ◌∙◌, ne_eqb, eq-eqb}
use Rattle.std.specs.Prelude.{ℕ, ◌≡◌, ◌≤◌, ◌<◌, ◌-◌, Bool, ◌&&◌, List, Some, None, true, false, length, get_or, drop, eqb}
use Rattle.costs.specs.Choice.{◌if◌otherwise◌}
use Rattle.costs.specs.declared.Step.{Step}
use Rattle.window.specs.declared.PackedState.{PackedState}
use Rattle.window.specs.Keys.{keys_of, Window, held_first}
use Rattle.replay.specs.Machine.{Rules, allows}
use Rattle.replay.specs.Laws.{ready}
use Rattle.rewind.specs.Walk.{place, put_by, ungrown}
use Rattle.rewind.specs.Code.{Below, below_of, ungrown_some}
use Rattle.rewind.proofs.take_off.Goals as goal

module _ (q : Rules) (step : Step) (state : PackedState) (below n : ℕ) (h : Window state) (len : n ≡ length (keys_of state)) (some : 1 ≤ n) (e : below ≡ n - 1) where
  -- there is a top key
  some_key : 0 < length (keys_of state)
  some_key = omega arith

  -- the step back, by the test and the top key
  put_off : (left : List ℕ) → ungrown q step (keys_of state) left
      ≡ (Some (place (drop 1 (keys_of state)) left) if allows q step below && eqb (put_by step (drop 1 (keys_of state))) (get_or (keys_of state) 0 0) otherwise None)
  put_off left =
      let z : length (keys_of state) ≡ 0 → ⊥ = λ k. omega (arith, k) in
      let b : length (keys_of state) - 1 ≡ below = omega arith in
      ungrown_some q step (keys_of state) left z ∙ ap (λ (m : ℕ). Some (place (drop 1 (keys_of state)) left) if allows q step m && eqb (put_by step (drop 1 (keys_of state))) (get_or (keys_of state) 0 0) otherwise None) b

  module _ (t : PackedState) (b : Below state t) (ok : Bool) (g : ok ≡ allows q step below) where
    tested : length (keys_of t) ≡ below
    tested = omega (arith, b.len)

    off : (put top : ℕ) (left : List ℕ) → ok ≡ true → put ≡ put_by step (keys_of t) → top ≡ get_or (keys_of state) 0 0 → put ≡ top → Some (place (keys_of t) left) ≡ ungrown q step (keys_of state) left
    off put top left o p k f =
        let v : eqb (put_by step (keys_of t)) (get_or (keys_of state) 0 0) ≡ true = eq-eqb _ _ (sym p ∙ f ∙ k) in
        sym (put_off left ∙ rw (sym g ∙ o, ← b.keys, v))

    not_put : (put top : ℕ) (left : List ℕ) → ok ≡ true → put ≡ put_by step (keys_of t) → top ≡ get_or (keys_of state) 0 0 → (put ≡ top → ⊥) → None ≡ ungrown q step (keys_of state) left
    not_put put top left o p k f =
        let v : eqb (put_by step (keys_of t)) (get_or (keys_of state) 0 0) ≡ false = ne_eqb _ _ (λ z. f (p ∙ z ∙ sym k)) in
        sym (put_off left ∙ rw (sym g ∙ o, ← b.keys, v))

    not_allowed : (left : List ℕ) → ok ≡ false → None ≡ ungrown q step (keys_of state) left
    not_allowed left o = sym (put_off left ∙ rw (sym g ∙ o))

pub get-top-requires : goal.get-top-requires
get-top-requires c =
    let n = c.len.ensures _ c.args.at.held in
    (_, c.args.at.held, omega arith)

pub pop-state-requires : goal.pop-state-requires
pop-state-requires c =
    let n = c.len.ensures _ c.args.at.held in
    (_, (_, held_first _ _ c.args.at.held (omega arith)))

pub returns-then-not-allows : goal.returns-then-not-allows
returns-then-not-allows c =
    let h = c.args.at.held in
    let n = c.len.ensures _ h in
    let b = below_of _ _ (c.pop-state.ensures _ _ (held_first _ _ h (omega arith))) in
    not_allowed _ _ _ _ _ h n c.in_ok-below.ensures.0 c.in_ok-below.ensures.1 _ b _ c.allows.ensures _ c.if-not-allows.true

pub key_put-key-requires : goal.key_put-key-requires
key_put-key-requires c =
    let h = c.args.at.held in
    let n = c.len.ensures _ h in
    let b = below_of _ _ (c.pop-state.ensures _ _ (held_first _ _ h (omega arith))) in
    let l : length (keys_of c.pop-state.result) ≡ c.in_ok-below.below = omega (arith, b.len) in
    (b.held, ready _ _ _ c.args.rules.short (ap (allows _ _) l ∙ sym c.allows.ensures ∙ c.if-not-allows.false))

pub returns-then-key-top : goal.returns-then-key-top
returns-then-key-top c =
    let h = c.args.at.held in
    let n = c.len.ensures _ h in
    let f : 0 < length (keys_of c.args.at.state) = omega arith in
    let b = below_of _ _ (c.pop-state.ensures _ _ (held_first _ _ h f)) in
    not_put _ _ _ _ _ h n c.in_ok-below.ensures.0 c.in_ok-below.ensures.1 _ b _ c.allows.ensures _ _ _ c.if-not-allows.false c.key_put-key.ensures (c.get-top.ensures _ h f) c.if-key-top.true

pub invariant_of-result : goal.invariant_of-result
invariant_of-result c =
    let n = c.len.ensures _ c.args.at.held in
    record { held = (below_of _ _ (c.pop-state.ensures _ _ (held_first _ _ c.args.at.held (omega arith)))).held; keyed = c.args.at.keyed }

pub returns : goal.returns
returns c =
    let h = c.args.at.held in
    let n = c.len.ensures _ h in
    let f : 0 < length (keys_of c.args.at.state) = omega arith in
    let b = below_of _ _ (c.pop-state.ensures _ _ (held_first _ _ h f)) in
    off _ _ _ _ _ h n c.in_ok-below.ensures.0 c.in_ok-below.ensures.1 _ b _ c.allows.ensures _ _ _ c.if-not-allows.false c.key_put-key.ensures (c.get-top.ensures _ h f) c.if-key-top.false
