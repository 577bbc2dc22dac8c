-- The first trail, then a circuit for each key: what is written and the circuits to come are the whole.
use Rattle.std.proofs.Common.{sym, arith, length-set, ◌∙◌, []}
use Rattle.star_swap.specs.StarCode.{rest_all, wrote_none}
use Rattle.star_swap.specs.StarLoop.{star_empty, first_ready, star_begin, whole, whole_end, write_none, write_room, write_one}
use Rattle.star_swap.specs.Ended.{all_skipped, write_skipped}
use Rattle.star_swap.proofs.star.Goals as goal
use Rattle.star_swap.proofs.star.Goals.{then-has+in-Some-last, then-has+in_default-last, else-has}

pub returns-in_default : goal.returns-in_default
returns-in_default c = whole _ _ c.requires.pair _ _ c.requires.start_in_bounds _ _ _ (wrote_none _ _) (star_empty _ _ [] (sym c.in_default.ensures.value))

pub trail-first-requires : goal.trail-first-requires
trail-first-requires c = first_ready _ _ [] c.requires.pair _ c.link.ensures _ (sym c.in-Some.ensures.value)

pub returns-then-is_empty : goal.returns-then-is_empty
returns-then-is_empty c =
    whole _ _ c.requires.pair _ _ c.requires.start_in_bounds _ _ _
    (rw (rest_all c.trail-first.new.slots c.trail-first.result 20 (omega (arith, c.trail-first.array_long))) at c.write-end.ensures)
    (all_skipped _ _ [] _ _ c.requires.pair (star_begin _ _ [] c.requires.pair _ c.link.ensures _ (sym c.in-Some.ensures.value) _ _ c.trail-first.ensures.given)
    (c.is_empty.ensures c.if-is_empty.true))

pub loop-key-init : goal.loop-key-init
loop-key-init c =
    record {
      swaps = _;
      inv = star_begin _ _ [] c.requires.pair _ c.link.ensures _ (sym c.in-Some.ensures.value) _ _ c.trail-first.ensures.given;
      wrote = rw (rest_all c.trail-first.new.slots c.trail-first.result 20 (omega (arith, c.trail-first.array_long))) at c.write-end.ensures;
    }

pub bounds-steps-end : goal.bounds-steps-end
bounds-steps-end c =
    let e = rest_all c.trail-first-then-has.new.slots c.trail-first-then-has.result 20 (omega (arith, c.trail-first-then-has.array_long)) in
    omega (arith, write_room _ _ c.requires.pair _ _ c.requires.start_in_bounds _ _ _ _ c.loop-key.invariant (omega arith) _ _ c.trail-first-then-has.ensures.given _ (sym (rw e at c.in-Some-last.ensures.value)))

pub write-end-requires-in-Some-last : goal.write-end-requires-in-Some-last
write-end-requires-in-Some-last c =
    let e = rest_all c.trail-first-then-has.new.slots c.trail-first-then-has.result 20 (omega (arith, c.trail-first-then-has.array_long)) in
    rw (e, length-set c.loop-key.steps c.loop-key.end c.swap_code.result)
    (write_room _ _ c.requires.pair _ _ c.requires.start_in_bounds _ _ _ _ c.loop-key.invariant (omega arith) _ _ c.trail-first-then-has.ensures.given _ (sym (rw e at c.in-Some-last.ensures.value)))

pub loop-key-preserved : goal.loop-key-preserved
loop-key-preserved c =
    elim c.if-has.branch [
      | then-has+in-Some-last w ↦
          let e = rest_all w.trail-first-then-has.new.slots w.trail-first-then-has.result 20 (omega (arith, w.trail-first-then-has.array_long)) in
          rw (w.arcs-is, w.steps-is, w.end-is)
          (write_one _ _ c.requires.pair _ _ c.requires.start_in_bounds _ _ _ _ c.loop-key.invariant (omega arith) _ _ w.trail-first-then-has.ensures.given _ (sym (rw e at w.in-Some-last.ensures.value)) _ _
          (rw (e, w.swap_code.ensures) at w.write-end-in-Some-last.ensures))
      | then-has+in_default-last w ↦
          let e = rest_all w.trail-first-then-has.new.slots w.trail-first-then-has.result 20 (omega (arith, w.trail-first-then-has.array_long)) in
          rw (w.arcs-is, w.steps-is, w.end-is)
          (write_none _ _ c.requires.pair _ _ c.requires.start_in_bounds _ _ _ _ c.loop-key.invariant (omega arith) _ _ w.trail-first-then-has.ensures.given (sym (rw e at w.in_default-last.ensures.value)))
      | else-has w ↦ rw (w.arcs-is, w.steps-is, w.end-is) (write_skipped _ _ _ _ _ _ _ _ c.loop-key.invariant (omega arith) (sym w.if-has.false ∙ c.has.ensures))
    ]

pub returns : goal.returns
returns c = whole_end _ _ c.requires.pair _ _ c.requires.start_in_bounds _ _ _ _ c.loop-key.invariant (omega arith)
