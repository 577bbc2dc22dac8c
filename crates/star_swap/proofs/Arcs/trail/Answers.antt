-- The loop of the definition, over the table of arcs.
use Rattle.std.specs.Prelude.{◌≡◌, refl, []}
use Rattle.std.proofs.Common.{sym, ◌∙◌, arith, lit<, length-set, drop_of_length-le}
use Rattle.star_swap.specs.TrailCode.{empty_is, begin, holds, leave, store_front, place_left, pop_on, pop_last, below_low, arc_low, arc_room, push}
use Rattle.star_swap.proofs.Arcs.trail.Goals as goal

pub loop-slot-init : goal.loop-slot-init
loop-slot-init c = (
  rw (c.new-stack.ensures, drop_of_length-le c.args.slots.now {i = 20} (omega (arith, c.told-slots))) (begin _ _ _ c.requires.start_key),
  omega arith,
  omega (arith, c.told-slots),
)

pub take-requires : goal.take-requires
take-requires c = (holds _ _ _ _ _ _ _ c.loop-slot.invariant.0 c.requires, c.loop-slot.invariant.0.key_low)

pub push-requires : goal.push-requires
push-requires c = (lit< tt, omega (arith, arc_room _ _ _ _ _ _ _ _ c.loop-slot.invariant.0 _ c.in-Some.ensures c.requires))

pub bounds-cur-slot : goal.bounds-cur-slot
bounds-cur-slot c = arc_low _ _ _ _ _ _ _ _ c.loop-slot.invariant.0 _ c.in-Some.ensures c.requires

pub loop-slot-preserved-in-Some : goal.loop-slot-preserved-in-Some
loop-slot-preserved-in-Some c = (rw c.push.ensures.items (push _ _ _ _ _ _ _ _ c.loop-slot.invariant.0 _ c.in-Some.ensures c.requires), c.loop-slot.invariant.1, c.loop-slot.invariant.2)

pub overflow_sub-first : goal.overflow_sub-first
overflow_sub-first c = omega (arith, place_left _ _ _ _ c.take.new.self _ _ _ c.loop-slot.invariant.0 _ _ c.in-Some-pop.ensures.items c.loop-slot.slots c.loop-slot.first c.loop-slot.invariant.2 refl)

pub returns-in_default-pop : goal.returns-in_default-pop
returns-in_default-pop c =
    let e : c.loop-slot.stack.items ≡ [] = empty_is _ (sym c.in_default-pop.ensures.value) in
    record {
      given = record { gave = leave _ _ _ _ _ _ _ _ c.loop-slot.invariant.0 c.in_default.ensures e };
      in_bounds = c.loop-slot.invariant.1;
    }

pub bounds-cur-below : goal.bounds-cur-below
bounds-cur-below c =
    below_low _ _ _ _ c.take.new.self _ _ _ c.loop-slot.invariant.0 _ _ c.in-Some-pop.ensures.items _ (sym (rw c.deref.ensures.0 at c.in-Some-last.ensures.value))

pub loop-slot-preserved-in-Some-last : goal.loop-slot-preserved-in-Some-last
loop-slot-preserved-in-Some-last c = (
  rw (store_front c.loop-slot.slots c.loop-slot.first c.in-Some-pop.slot (place_left _ _ _ _ c.take.new.self _ _ _ c.loop-slot.invariant.0 _ _ c.in-Some-pop.ensures.items c.loop-slot.slots c.loop-slot.first c.loop-slot.invariant.2 refl) (omega (arith, c.loop-slot.invariant.1, c.loop-slot.invariant.2)))
      (pop_on _ _ _ _ _ _ _ _ c.loop-slot.invariant.0 _ _ c.in-Some-pop.ensures.items c.in_default.ensures c.requires _ (sym (rw c.deref.ensures.0 at c.in-Some-last.ensures.value))),
  omega (arith, c.loop-slot.invariant.1),
  length-set _ _ _ ∙ c.loop-slot.invariant.2,
)

pub loop-slot-preserved : goal.loop-slot-preserved
loop-slot-preserved c = (
  rw (store_front c.loop-slot.slots c.loop-slot.first c.in-Some-pop.slot (place_left _ _ _ _ c.take.new.self _ _ _ c.loop-slot.invariant.0 _ _ c.in-Some-pop.ensures.items c.loop-slot.slots c.loop-slot.first c.loop-slot.invariant.2 refl) (omega (arith, c.loop-slot.invariant.1, c.loop-slot.invariant.2)))
      (pop_last _ _ _ _ _ _ _ _ c.loop-slot.invariant.0 _ _ c.in-Some-pop.ensures.items c.in_default.ensures c.requires (sym (rw c.deref.ensures.0 at c.in-None.ensures.value))),
  omega (arith, c.loop-slot.invariant.1),
  length-set _ _ _ ∙ c.loop-slot.invariant.2,
)
