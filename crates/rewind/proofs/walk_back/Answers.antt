-- What is left of the walk decides.
use Rattle.std.proofs.Common.{sym, ap, ◌∙◌, arith, eqb-true}
use Rattle.std.proofs.lemmas.Bool.{eqb-false}
use Rattle.std.proofs.lemmas.Grind.{common_steps}
use Rattle.std.specs.Prelude.{ℕ, Bool, true, false, ◌≡◌, List, [], ◌∷◌, ◌++◌, Option, None, length, reverse, eqb}
use Rattle.window.specs.declared.PackedState.{PackedState}
use Rattle.rewind.specs.Walk.{all_back}
use Rattle.std.specs.Bool.{then_some}
use Rattle.std.specs.Option.{option_map}
use Rattle.std.specs.Slice.Iter.{iter_rest}
use Rattle.std.specs.Iterator.Adapters.{rev_source}
use Rattle.rewind.specs.Held.{back_of}
use Rattle.window.specs.Keys.{keys_of}
use Rattle.rewind.specs.Code.{walking_first, walking_turn, walking_next, walking_last, none_left, some_left}
use Rattle.rewind.proofs.walk_back.Goals as goal

pub loop-code-init : goal.loop-code-init
loop-code-init c =
    let e : iter_rest (rev_source c.into_iter-code-iterator.result) ≡ c.args.steps.now = grind (arith, common_steps) in
    rw e (walking_first _ c.args.steps.now c.args.end)

pub loop-code-preserved : goal.loop-code-preserved
loop-code-preserved c =
    let front = iter_rest (rev_source c.next.new.self) in
    let e : iter_rest (rev_source c.loop-code.code-iterator) ≡ front ++ c.in-Some.field-0.now ∷ [] = grind (arith, common_steps) in
    walking_next _ _ _ _ _ _ front _ c.loop-code.invariant e c.in_ok-at.at (sym (ap (option_map back_of) c.in_ok-at.was) ∙ c.step_back.ensures)

pub returns-in_err-at-clause-start : goal.returns-in_err-at-clause-start
returns-in_err-at-clause-start c =
    let front = iter_rest (rev_source c.next.new.self) in
    let e : iter_rest (rev_source c.loop-code.code-iterator) ≡ front ++ c.in-Some.field-0.now ∷ [] = grind (arith, common_steps) in
    let k : c.from_residual.result ≡ None = grind (arith, common_steps) in
    rw k (sym (walking_turn _ _ _ _ _ _ front _ c.loop-code.invariant e None (sym (ap (option_map back_of) c.in_err-at.was) ∙ c.step_back.ensures)))

-- the window where no popped key is left, and none where one is
whole : (s : PackedState) (left : List ℕ) (b : Bool) (o : Option PackedState) → b ≡ eqb (length left) 0 → o ≡ then_some b s → option_map keys_of o ≡ all_back (keys_of s) (reverse left)
whole s left true o e k = rw k (sym (none_left (keys_of s) left (eqb-true _ _ (sym e))))
whole s left false o e k = rw k (sym (some_left (keys_of s) left (eqb-false _ _ (sym e))))

pub returns-clause-start : goal.returns-clause-start
returns-clause-start c =
    let e : iter_rest (rev_source c.loop-code.code-iterator) ≡ [] = grind (arith, common_steps) in
    let at = c.loop-code.at in
    whole at.state at.left.now _ _ c.is_empty.ensures c.then_some.ensures ∙ sym (walking_last _ _ _ _ _ _ c.loop-code.invariant e)
