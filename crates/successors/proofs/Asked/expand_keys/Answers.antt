use Rattle.std.proofs.Common.{rules, lives}
use Rattle.successors.specs.Parts.{offered_is}
use Rattle.successors.specs.View.{question_of}
use Rattle.successors.specs.Whole.{room_pop, room_zero, room_swap, room_rest, made}
use Rattle.successors.proofs.Asked.expand_keys.Goals as goal

pub put-requires : goal.put-requires
put-requires c =
    let s = c.args.self.now in
    rw (c.then_some.ensures, offered_is) (room_pop (question_of s) c.args.w.now s.keys.now _ _ c.args.last c.suffix_start-start.ensures c.min-limit.ensures s.accepted _ c.new-out.ensures)

pub put_zeros-requires : goal.put_zeros-requires
put_zeros-requires c =
    let s = c.args.self.now in
    room_zero (question_of s) c.args.w.now s.keys.now _ _ c.args.last c.suffix_start-start.ensures c.min-limit.ensures s.accepted _ c.new-out.ensures _ (rw (c.then_some.ensures, offered_is) at c.put.ensures)

pub put_each-requires : goal.put_each-requires
put_each-requires c κs within =
    let s = c.args.self.now in (
      search (lives, within) depth 24 fits 20000,
      (
        (λ i l. let k = c.min-limit.ensures in (search rules, λ r p. search rules)),
        room_swap (question_of s) c.args.w.now s.keys.now _ _ c.args.last c.suffix_start-start.ensures c.min-limit.ensures s.accepted _ c.new-out.ensures _ (rw (c.then_some.ensures, offered_is) at c.put.ensures) _ c.put_zeros.ensures,
      ),
    )

pub put_grown-requires-clause-roomy : goal.put_grown-requires-clause-roomy
put_grown-requires-clause-roomy c =
    let s = c.args.self.now in
    room_rest (question_of s) c.args.w.now s.keys.now _ _ c.args.last c.suffix_start-start.ensures c.min-limit.ensures s.accepted _ c.new-out.ensures _ (rw (c.then_some.ensures, offered_is) at c.put.ensures) _ c.put_zeros.ensures _ c.put_each.ensures

pub returns : goal.returns
returns c =
    let s = c.args.self.now in
    made (question_of s) c.args.w.now s.keys.now _ _ c.args.last c.suffix_start-start.ensures c.min-limit.ensures s.accepted _ c.new-out.ensures _ (rw (c.then_some.ensures, offered_is) at c.put.ensures) _ c.put_zeros.ensures _ c.put_each.ensures _ c.put_grown.ensures
