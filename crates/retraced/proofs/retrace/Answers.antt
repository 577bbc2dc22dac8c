-- The lists that replay leaves are those that stepping back takes.
use Rattle.std.proofs.Common.{sym, ap, arith, length-take-le}
use Prim.Native.Nat.{ℕ}
use Rattle.std.proofs.Math.Path.{◌∙◌}
use Rattle.std.specs.Prelude.{take}
use Rattle.replay.specs.Machine.{plain_rules, above}
use Rattle.rewind.specs.Rewind.{rewound}
use Rattle.rewind.specs.Round.{end_within, popped_within, takes_back, takes_none}
use Rattle.retraced.specs.Retraced.{taken_refused, taken_given}
use Rattle.retraced.proofs.retrace.Goals as goal

pub returns-then-forth-ne0 : goal.returns-then-forth-ne0
returns-then-forth-ne0 c =
    let a = c.args in record {
      popped_after = c.replay-forth.ensures;
      again_after = taken_refused c.replay-forth.result.refusal a.start.now a.again.now c.if-forth-ne0.true;
    }

pub slice_bounds-rewind-end : goal.slice_bounds-rewind-end
slice_bounds-rewind-end c = end_within _ _ _ _ _ _ _ _ c.replay-forth.ensures c.if-forth-ne0.false

pub slice_bounds-rewind-end-2 : goal.slice_bounds-rewind-end-2
slice_bounds-rewind-end-2 c = sym (length-take-le _ _ (end_within _ _ _ _ _ _ _ _ c.replay-forth.ensures c.if-forth-ne0.false))

pub slice_bounds-rewind-end-3 : goal.slice_bounds-rewind-end-3
slice_bounds-rewind-end-3 c = omega (arith, c.pops-keys.ensures, popped_within _ _ _ _ _ _ _ _ c.replay-forth.ensures c.if-forth-ne0.false)

pub slice_bounds-rewind-end-4 : goal.slice_bounds-rewind-end-4
slice_bounds-rewind-end-4 c = sym (length-take-le _ _ (omega (arith, c.pops-keys.ensures, popped_within _ _ _ _ _ _ _ _ c.replay-forth.ensures c.if-forth-ne0.false)))

pub returns : goal.returns
returns c =
    let a = c.args in let q = above a.beneath (plain_rules a.dup_max a.swap_max a.max_len a.kinds.now) in
    let new = c.replay-forth.new.res in
    let keys = c.replay-forth.new.popped in
    let z = c.if-forth-ne0.false in
    let back = c.rewind-back.ensures.res_after ∙ ap (λ (n : ℕ). rewound q (take c.replay-forth.result.length new) a.steps.now (take n keys) a.again.now) c.pops-keys.ensures in record {
      popped_after = c.replay-forth.ensures;
      again_after = taken_given c.replay-forth.result.refusal a.start.now a.again.now _ z
          (λ l. back ∙ takes_back q a.start.now a.steps.now a.res.now a.popped.now new keys c.replay-forth.result c.replay-forth.ensures z a.again.now l)
          (λ l. back ∙ takes_none q a.start.now a.steps.now a.res.now a.popped.now new keys c.replay-forth.result c.replay-forth.ensures z a.again.now l);
    }
