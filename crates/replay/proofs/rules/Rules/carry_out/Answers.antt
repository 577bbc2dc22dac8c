-- The run, whose end window is written.
use Rattle.std.proofs.Common.{sym, ap, arith, ◌∙◌}
use Rattle.std.specs.Prelude.{ℕ, ◌≡◌, ◌≤◌, List, Result, Err, length}
use Rattle.std.proofs.lemmas.Grind.{common_steps}
use Rattle.window.specs.declared.PackedState.{PackedState}
use Rattle.window.specs.State.{Held}
use Rattle.window.specs.Keys.{keys_of, keys_length, held_keys, held_window}
use Rattle.replay.specs.Machine.{Rules, ran_on}
use Rattle.replay.specs.Held.{outcome_of}
use Rattle.replay.proofs.rules.Rules.carry_out.Goals as goal

-- the steps come to what the run gave
outcome : (q : Rules) (s : PackedState) (start steps : List ℕ) (r o : Result PackedState ℕ) → Held 6 s start → length start ≤ 21 → outcome_of r ≡ ran_on q 0 steps (keys_of s) → r ≡ o → ran_on q 0 steps start ≡ outcome_of o
outcome q s start steps r o h l e k = ap (ran_on q 0 steps) (sym (held_keys s start h l)) ∙ sym e ∙ ap outcome_of k

pub run-requires : goal.run-requires
run-requires c = held_window _ _ c.from_ids.ensures c.requires.1

pub write-length-requires : goal.write-length-requires
write-length-requires c = (c.in_ok-end.ensures.window, omega (arith, keys_length c.in_ok-end.end))

pub returns-in_err-end : goal.returns-in_err-end
returns-in_err-end c =
    let k : c.from_residual.result ≡ Err c.in_err-end.field-0.0 = grind (arith, common_steps) in
    rw (k, outcome _ _ _ _ _ _ c.from_ids.ensures c.requires.1 c.run.ensures.outcome c.in_err-end.was)

pub returns : goal.returns
returns c =
    rw (outcome _ _ _ _ _ _ c.from_ids.ensures c.requires.1 c.run.ensures.outcome c.in_ok-end.was, c.highest-highest.ensures, c.write-length.ensures.0, c.write-length.ensures.1)
