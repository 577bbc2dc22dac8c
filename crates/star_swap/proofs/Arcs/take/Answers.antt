-- The slot in front of the key's list, if there is one: a byte above 20 is no slot, so it stands for none.
use Rattle.std.specs.Prelude.{◌≡◌, ◌<◌, length}
use Rattle.std.proofs.Common.{ap, arith, rules, ◌∙◌}
use Rattle.std.proofs.Math.Decide.{ℕ_discrete}
use Rattle.star_swap.specs.Star.{at}
use Rattle.star_swap.specs.Chain.{slot_of, is_none, is_slot, byte_at, took_none, took_some, held_slot}
use Rattle.star_swap.proofs.Arcs.take.Goals as goal

pub returns-then-slot-gt20 : goal.returns-then-slot-gt20
returns-then-slot-gt20 c =
    let slot = at c.args.self.now.head c.args.key in
    let b = byte_at c.args.self.now.head c.args.key (search rules) in
    let none : slot ≡ 255 = elim (ℕ_discrete slot 255) [
      | yes e ↦ e
      | no e ↦ let low : slot < 21 = held_slot _ _ _ c.requires.0 c.requires.1 (ap slot_of b ∙ is_slot slot e) in absurd (omega (arith, low, c.if-slot-gt20.true))
    ] in
    took_none _ _ c.requires.1 (ap slot_of (b ∙ none) ∙ is_none)

pub bounds-self-slot : goal.bounds-self-slot
bounds-self-slot c = omega (arith, c.if-slot-gt20.false)

pub returns : goal.returns
returns c =
    let slot = at c.args.self.now.head c.args.key in
    let s = ap slot_of (byte_at c.args.self.now.head c.args.key (search rules)) ∙ is_slot slot (λ e. omega (arith, e, c.if-slot-gt20.false)) in
    let long : length c.args.self.now.next ≡ 21 = search rules in
    rw (← byte_at c.args.self.now.next slot (omega (arith, c.if-slot-gt20.false, long))) (took_some _ _ c.requires.1 _ (search rules) s)
