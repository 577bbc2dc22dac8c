use Rattle.std.proofs.Common.{◌∙◌, sym, rules, lives, append-nil}
use Rattle.successors.specs.Successors.{zeros, zero_at}
use Rattle.successors.specs.Listed.{each_up_to, grown_yes, grown_no}
use Rattle.successors.specs.Whole.{keys_fit}
use Rattle.successors.proofs.Asked.put_zeros.Goals as goal

pub put_each-requires : goal.put_each-requires
put_each-requires c κs within =
    let s = c.args.self.now in
    let fit = keys_fit _ _ s.accepted in
    let grows = sym c.has_room.ensures ∙ c.if-has_room.true in (
      search (lives, within) depth 24 fits 20000,
      (
        (λ i l. let k = fit i l in (search rules, λ r p. search rules)),
        rw (each_up_to (zero_at s.kinds.now) s.keys.now) (rw (grown_yes s.cfg.max_len _ (zeros s.kinds.now s.keys.now) grows) at c.requires),
      ),
    )

pub returns-then-has_room : goal.returns-then-has_room
returns-then-has_room c =
    let s = c.args.self.now in
    let grows = sym c.has_room.ensures ∙ c.if-has_room.true in
    rw (grown_yes s.cfg.max_len _ (zeros s.kinds.now s.keys.now) grows, ← each_up_to (zero_at s.kinds.now) s.keys.now) c.put_each.ensures

pub returns-else-has_room : goal.returns-else-has_room
returns-else-has_room c =
    let s = c.args.self.now in
    let full = sym c.has_room.ensures ∙ c.if-has_room.false in
    rw (grown_no s.cfg.max_len _ (zeros s.kinds.now s.keys.now) full) (sym (append-nil _))
