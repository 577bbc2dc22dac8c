-- The popped keys so far are written, and the steps left pop the others.
use Rattle.std.proofs.Common.{sym, ap, subst, ◌∙◌}
use Rattle.std.specs.Prelude.{ℕ, ◌≡◌, List, Option, Some}
use Rattle.std.specs.Option.{option_map}
use Rattle.costs.specs.Step.{decoded}
use Rattle.window.specs.declared.PackedState.{PackedState}
use Rattle.window.specs.Keys.{keys_of}
use Rattle.replay.specs.Machine.{Rules, step_on}
use Rattle.replay.specs.Popped.{pop_takes}
use Rattle.replay.specs.Writing.{popping_first, popping_last, popping_stopped, popping_passed, popping_put}
use Rattle.replay.proofs.rules.Rules.write_popped.Goals as goal
use Rattle.replay.proofs.rules.Rules.write_popped.Goals.{then-code-eq0, else-code-eq0}

-- the step that was tried, by its outcome
tried : (q : Rules) (code : ℕ) (v : List ℕ) (r o : Option PackedState) → option_map keys_of r ≡ step_on q (decoded code) v → r ≡ o → step_on q (decoded code) v ≡ option_map keys_of o
tried q code v r o s k = sym s ∙ ap (option_map keys_of) k

-- the same of a Pop
popped : (q : Rules) (code : ℕ) (v w : List ℕ) → step_on q (decoded code) v ≡ Some w → code ≡ 0 → step_on q (decoded 0) v ≡ Some w
popped q code v w s z = subst (λ (x : ℕ). step_on q (decoded x) v ≡ Some w) z s

pub loop-code-init : goal.loop-code-init
loop-code-init c = popping_first _ _ _ _ c.requires.0

pub returns-in_default : goal.returns-in_default
returns-in_default c =
    popping_stopped _ _ _ _ _ _ _ _ c.loop-code.invariant c.loop-code-test.true (tried _ _ _ _ _ c.try_step.ensures.after c.in_default.is)

pub get-requires : goal.get-requires
get-requires c =
    let s = tried _ _ _ _ _ c.try_step.ensures.after c.in-Some.is in
    (_, c.loop-code.invariant.held, (pop_takes _ _ _ (popped _ _ _ _ s c.if-code-eq0.true)).0)

pub loop-code-preserved : goal.loop-code-preserved
loop-code-preserved c =
    let v = c.loop-code.invariant in
    let s = tried _ _ _ _ _ c.try_step.ensures.after c.in-Some.is in
    elim c.if-code-eq0.branch [
      | then-code-eq0 w ↦
          rw (w.popped-is, w.state-is, w.n-is)
          (popping_put _ _ _ _ _ _ _ _ v c.in-Some.next w.get.result c.loop-code-test.true c.requires.1 w.if-code-eq0.true s c.in-Some.ensures.window
          (w.get.ensures _ v.held (pop_takes _ _ _ (popped _ _ _ _ s w.if-code-eq0.true)).0))
      | else-code-eq0 w ↦ rw (w.popped-is, w.state-is, w.n-is) (popping_passed _ _ _ _ _ _ _ _ v c.in-Some.next c.loop-code-test.true w.if-code-eq0.false s c.in-Some.ensures.window)
    ]

pub returns : goal.returns
returns c = popping_last _ _ _ _ _ _ _ _ c.loop-code.invariant c.loop-code-test.false
