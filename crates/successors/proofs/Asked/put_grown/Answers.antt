use Rattle.std.specs.Prelude.{min, length}
use Rattle.std.proofs.Common.{◌∙◌, sym, append-nil}
use Rattle.successors.specs.View.{rest_of}
use Rattle.successors.specs.Listed.{grown_yes, grown_no}
use Rattle.successors.proofs.Asked.put_grown.Goals as goal

pub put_rest-requires : goal.put_rest-requires
put_rest-requires c =
    let s = c.args.self.now in
    let w = c.args.w.now in
    let grows = sym c.has_room.ensures ∙ c.if-has_room.true in
    rw (c.new.ensures.0, c.new.ensures.1) (rw (grown_yes s.cfg.max_len (length w) (rest_of s w (min (length w) s.cfg.dup_max)) grows) at c.requires.roomy)

pub returns-then-has_room : goal.returns-then-has_room
returns-then-has_room c =
    let s = c.args.self.now in
    let w = c.args.w.now in
    let grows = sym c.has_room.ensures ∙ c.if-has_room.true in
    rw (grown_yes s.cfg.max_len (length w) (rest_of s w (min (length w) s.cfg.dup_max)) grows) (rw (c.new.ensures.0, c.new.ensures.1) at c.put_rest.ensures)

pub returns-else-has_room : goal.returns-else-has_room
returns-else-has_room c =
    let s = c.args.self.now in
    let w = c.args.w.now in
    let full = sym c.has_room.ensures ∙ c.if-has_room.false in
    rw (grown_no s.cfg.max_len (length w) (rest_of s w (min (length w) s.cfg.dup_max)) full) (sym (append-nil _))
