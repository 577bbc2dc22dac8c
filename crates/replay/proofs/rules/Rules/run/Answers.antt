-- What is left to replay on the window so far decides.
use Rattle.std.proofs.Common.{sym, ap, arith, subst, ◌∙◌}
use Rattle.std.proofs.lemmas.Grind.{common_steps}
use Rattle.std.specs.Prelude.{ℕ, ◌+◌, ◌≡◌, ◌<◌, List, Option, Some, None, Result, Err, IfSome, drop, get_or, length}
use Rattle.std.specs.Option.{option_map, ok_or}
use Rattle.std.specs.Result.{result_ok}
use Rattle.costs.specs.Step.{decoded}
use Rattle.replay.specs.Machine.{Rules, onward, ran_on, step_on}
use Rattle.replay.specs.Laws.{ran_turn, ran_ends}
use Rattle.window.specs.declared.PackedState.{PackedState}
use Rattle.window.specs.Keys.{keys_of, Window}
use Rattle.replay.specs.Held.{outcome_of}
use Rattle.replay.proofs.rules.Rules.run.Goals as goal

-- the rest of the replay from the step that was tried, by its outcome
turned : (q : Rules) (steps w v : List ℕ) (i : ℕ) (r o : Option PackedState) → i < length steps → ran_on q 0 steps w ≡ ran_on q i (drop i steps) v →
    option_map keys_of r ≡ step_on q (decoded (get_or steps i 0)) v → r ≡ o →
    ran_on q 0 steps w ≡ onward i (λ u. ran_on q (i + 1) (drop (i + 1) steps) u) (option_map keys_of o)
turned q steps w v i r o h e s k =
    e ∙ ran_turn q steps i v h ∙ ap (onward i _) (sym s ∙ ap (option_map keys_of) k)

pub loop-i-preserved : goal.loop-i-preserved
loop-i-preserved c =
    let s : c.try_step.result ≡ Some c.in_ok-state.state = c.ok_or.ensures.ok_part ∙ ap result_ok c.in_ok-state.was in
    (subst (λ (o : Option PackedState). IfSome o Window) s c.try_step.ensures.window, turned _ _ _ _ _ _ _ c.loop-i-test.true c.loop-i.invariant.1 c.try_step.ensures.after s)

pub returns-in_err-state-clause-outcome : goal.returns-in_err-state-clause-outcome
returns-in_err-state-clause-outcome c =
    let k : c.from_residual.result ≡ Err c.in_err-state.field-0.0 = grind (arith, common_steps) in
    let s : c.try_step.result ≡ None = c.ok_or.ensures.ok_part ∙ ap result_ok c.in_err-state.was in
    let r : ◌≡◌ {A = Result PackedState ℕ} (Err c.in_err-state.field-0.0) (Err c.loop-i.i) = sym c.in_err-state.was ∙ c.ok_or.ensures.value ∙ ap (λ o. ok_or o c.loop-i.i) s in
    ap outcome_of (k ∙ r) ∙ sym (turned _ _ _ _ _ _ _ c.loop-i-test.true c.loop-i.invariant.1 c.try_step.ensures.after s)

pub returns-clause-outcome : goal.returns-clause-outcome
returns-clause-outcome c = sym (c.loop-i.invariant.1 ∙ ran_ends _ _ _ _ c.loop-i-test.false)
