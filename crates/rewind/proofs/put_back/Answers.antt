-- The last popped key put back, if the window may grow.
use Rattle.std.proofs.Common.{sym, ap, arith, subst, ◌∙◌}
use Rattle.std.specs.Prelude.{ℕ, ◌≡◌, ◌≤◌, ◌<◌, ◌-◌, List, [], ◌∷◌, Some, true, reverse, length, get_or, take}
use Rattle.window.specs.declared.PackedState.{PackedState}
use Rattle.window.specs.Pack.{Keys}
use Rattle.window.specs.State.{Held}
use Rattle.window.specs.Keys.{keys_of, Window, held_keys, held_window}
use Rattle.window.specs.Laws.{key_lt, keys_front}
use Rattle.replay.specs.Machine.{room}
use Rattle.replay.specs.Laws.{room_below}
use Rattle.rewind.specs.Walk.{place, regrown}
use Rattle.rewind.specs.Code.{with_last, regrown_last}
use Rattle.rewind.proofs.put_back.Goals as goal

module _ (max_len n : ℕ) (state : PackedState) (left : List ℕ) (len : n ≡ length (keys_of state)) (ok : room max_len n ≡ true) (m : max_len ≤ 21) where
  short : length (keys_of state) < 21
  short = omega (arith, room_below max_len n ok)

  module _ (t : PackedState) (h : Held 6 t (get_or left (length left - 1) 0 ∷ keys_of state)) where
    grown : Window t
    grown = held_window t (get_or left (length left - 1) 0 ∷ keys_of state) h (omega (arith, short))

    put : 1 ≤ length left → Some (place (keys_of t) (reverse (take (length left - 1) left))) ≡ regrown max_len (keys_of state) (reverse left)
    put p =
        let k : keys_of t ≡ get_or left (length left - 1) 0 ∷ keys_of state = held_keys t (get_or left (length left - 1) 0 ∷ keys_of state) h (omega (arith, short)) in
        sym (ap (λ (l : List ℕ). regrown max_len (keys_of state) (reverse l)) (sym (with_last left p)) ∙ regrown_last max_len (keys_of state) (take (length left - 1) left) (get_or left (length left - 1) 0) ∙ rw (sym (ap (room max_len) len) ∙ ok, k))

pub push-requires : goal.push-requires
push-requires c =
    let a = c.args.at in
    let g = sym c.has_room.ensures ∙ c.if-not-has_room.false in
    ((_, a.held, short _ _ a.state a.left.now (c.len.ensures _ a.held) g c.args.rules.short), key_lt 6 a.left.now _ a.keyed)

pub invariant_of-result : goal.invariant_of-result
invariant_of-result c =
    let a = c.args.at in
    let g = sym c.has_room.ensures ∙ c.if-not-has_room.false in
    record {
      held = grown _ _ a.state a.left.now (c.len.ensures _ a.held) g c.args.rules.short _ (c.push.ensures _ a.held);
      keyed = keys_front 6 _ (get_or a.left.now (length a.left.now - 1) 0 ∷ []) (subst (Keys 6) (sym (with_last a.left.now c.in-len1-up.len_at_least)) a.keyed);
    }

pub returns : goal.returns
returns c =
    let a = c.args.at in
    let g = sym c.has_room.ensures ∙ c.if-not-has_room.false in
    put _ _ a.state a.left.now (c.len.ensures _ a.held) g c.args.rules.short _ (c.push.ensures _ a.held) c.in-len1-up.len_at_least
