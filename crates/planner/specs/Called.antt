-- What holds of every answer of the planner as its caller gets it: of the fields and of the first `step_count` entries of the step list.
use Rattle.std.specs.Prelude.{ℕ, zero, suc, ◌+◌, ◌≤◌, max, true, false, List, [], ◌≡◌, refl, eqb, length, take}
use Rattle.std.specs.Prelude.{Option, None, Some}
use Rattle.astar.specs.Maybe.{some_injective}
use Rattle.std.proofs.Common.{ap, sym, ◌∙◌, subst, arith, ne_eqb}
use Rattle.costs.specs.Choice.{◌if◌otherwise◌}
use Rattle.costs.specs.Cost.{no_more}
use Rattle.costs.specs.Price.{cost_for_steps}
use Rattle.costs.specs.declared.Cost.{Cost}
use Rattle.replay.specs.Machine.{ends, ran_on, highest, popped_on}
use Rattle.replay.specs.Beneath.{narrowed}
use Rattle.replay.specs.Replay.{over, replayed}
use Rattle.replay.specs.Highest.{highest_fits, highest_none}
use Rattle.marking.specs.Marking.{marked}
use Rattle.algebra.specs.GasBytes.{gas_bytes}
use Rattle.astar.specs.Planner.{Found}
use Rattle.astar.proofs.Counted.{planned_in_bounds, planned_still}
use Rattle.problem.specs.Problem.{problem_of, bounded}
use Rattle.planner.specs.Refusal.{Asked, Lent, narrow, plan_refusal}
use Rattle.planner.specs.Planned.{question_of, listed, plan_held, before, answered, fields_of, refused, steps_with, given, planned_on, planned_for}
use Rattle.planner.specs.Cases.{no_steps, when_accepted}
use Rattle.planner.specs.Accepted.{Accepted, accepted, bounds}
use Rattle.planner.specs.Steady.{plan_cost, pass_mark, no_plan, taken, le_more}
use Rattle.planner.specs.Sound.{Sound, plan_sound, plan_within}
use Rattle.planner.specs.Marks.{replayed_own, marked_own, stack_own}
use Rattle.planner.specs.declared.Answer.{Answer}

-- ---- expansions and ending, of every answer

-- no more expansions than allowed (document 01, "Then the state is expanded"), an ending of 0 to 5, a highest window within the narrowed
-- greatest length and 0 without a plan
pub record InBounds (a : Asked) (r : Answer) : Type 0 where
  pub few_expansions : r.expansions ≤ a.allowance.expansions
  pub ending_most : r.ending ≤ 5
  pub highest_most : r.highest ≤ (narrowed a.rules).max_len
  pub no_window : r.found ≡ 0 → r.highest ≡ 0

fields_bounded : (a : Asked) (o : Option (Found Cost ℕ)) (e x : ℕ) → length a.start ≤ (narrowed a.rules).max_len → x ≤ a.allowance.expansions → e ≤ 5 → InBounds a (fields_of (narrowed a.rules) a.start o e x)
fields_bounded a None e x f h k = record { few_expansions = h; ending_most = k; highest_most = omega arith; no_window = λ _. refl }
fields_bounded a (Some p) e x f h k = record { few_expansions = h; ending_most = k; highest_most = highest_fits (narrowed a.rules) p.steps a.start f; no_window = λ z. absurd (omega arith) }

accepted_bounded : (a : Asked) (l : Lent) → Accepted (narrow a) l → InBounds a (fields_of (narrowed a.rules) a.start (answered (narrow a)).plan (answered (narrow a)).ending (answered (narrow a)).expansions)
unfolding answered
accepted_bounded a l ok =
    let n = narrow a in
    let b = bounded (question_of n) a.start (bounds n l ok) ok.prices in
    let t = planned_in_bounds gas_bytes (problem_of (question_of n) a.start) a.allowance (listed a.prices) 50 30000 b (before n).bound (plan_held (before n)) in
    fields_bounded a (answered n).plan (answered n).ending (answered n).expansions ok.start_fits t.few_expansions t.ending_most

chosen_bounded : (a : Asked) (t : Answer × List ℕ) (xs : List ℕ) (n : ℕ) → (n ≡ 0 → InBounds a t.0) → InBounds a (t if eqb n 0 otherwise (refused n, xs)).0
chosen_bounded a t xs zero h = h refl
chosen_bounded a t xs (suc n) h = let k : eqb (suc n) 0 ≡ false = ne_eqb (suc n) 0 (λ e. omega arith) in rw k (record { few_expansions = omega arith; ending_most = omega arith; highest_most = omega arith; no_window = λ _. refl })

-- on all input, refused input too
pub answer_bounded : (a : Asked) (l : Lent) (steps : List ℕ) → InBounds a (planned_for a l steps).0
unfolding planned_on
answer_bounded a l steps =
    chosen_bounded a (given (narrowed a.rules) a.start (answered (narrow a)) steps) steps (plan_refusal a l) (λ h. accepted_bounded a l (accepted a l h))

-- ---- a plan

-- an answer that gives a plan was accepted
chosen_found : (t : Answer × List ℕ) (xs : List ℕ) (n : ℕ) → (t if eqb n 0 otherwise (refused n, xs)).0.found ≡ 1 → n ≡ 0
chosen_found t xs zero h = refl
chosen_found t xs (suc n) h = let k : eqb (suc n) 0 ≡ false = ne_eqb (suc n) 0 (λ e. omega arith) in absurd (let z = rw k at h in omega arith)

found_accepted : (a : Asked) (l : Lent) (steps : List ℕ) → (planned_for a l steps).0.found ≡ 1 → plan_refusal a l ≡ 0
unfolding planned_on
found_accepted a l steps h = chosen_found (given (narrowed a.rules) a.start (answered (narrow a)) steps) steps (plan_refusal a l) h

-- r with the step list xs: the plan leads from start to goal within reaches and the narrowed window, costs what its steps are listed at, no more than the ceiling, is
-- marked 0, and its highest window is what replay and marking tell of it, at ending 0 the start; the whole stack has at most 1,024 items on the way
pub record SoundAnswer (a : Asked) (r : Answer) (xs : List ℕ) : Type 0 where
  pub replays : ran_on (narrowed a.rules) 0 (take r.step_count xs) a.start ≡ ends a.goal
  pub cost_is : plan_cost r ≡ cost_for_steps a.prices (take r.step_count xs)
  pub within : no_more (plan_cost r) (pass_mark r) ≡ true
  pub few : r.step_count ≤ max 128 a.allowance.expansions
  pub replayed_as : (result popped : List ℕ) → 21 ≤ length result → r.step_count ≤ length popped →
      replayed a.rules a.start (take r.step_count xs) result popped ≡
      (record { refusal = 0; index = 0; length = length a.goal; highest = r.highest }, over a.goal result, over (popped_on (narrowed a.rules) (take r.step_count xs) a.start) popped)
  pub marked_0 : marked a.rules a.prices a.start a.goal (take r.step_count xs) (pass_mark r) ≡ record { refusal = 0; index = 0; mark = 0; highest = r.highest }
  pub still : r.ending ≡ 0 → r.highest ≡ length a.start
  pub stack : a.rules.beneath + r.highest ≤ 1024

-- ending 0: the plan of no steps
no_steps_lem : (a : Asked) (p : Found Cost ℕ) → (answered a).plan ≡ Some p → (answered a).ending ≡ 0 → p.steps ≡ []
unfolding answered
no_steps_lem a p f z =
    let e = planned_still gas_bytes (problem_of (question_of a) a.start) a.allowance (listed a.prices) 50 (before a).bound (plan_held (before a)) z in
    ap (λ (x : Found Cost ℕ). x.steps) (some_injective p no_steps (sym f ∙ e))

plan_fields : (a : Asked) (l : Lent) (steps : List ℕ) → plan_refusal a l ≡ 0 → (o : Option (Found Cost ℕ)) (e x : ℕ) (p : Found Cost ℕ) → o ≡ Some p → (answered (narrow a)).plan ≡ Some p →
    (e ≡ 0 → p.steps ≡ []) →
    SoundAnswer a (fields_of (narrowed a.rules) a.start o e x) (steps_with o steps)
plan_fields a l steps h o e x p i f z =
    let ok = accepted a l h in
    let s : Sound (narrow a) p = plan_sound (narrow a) l ok p f in
    let t : take (length p.steps) (steps_with (Some p) steps) ≡ p.steps = taken (narrowed a.rules) a.start (Some p) e x steps in
    rw i
    (record {
      replays = rw t s.replays;
      cost_is = rw t s.cost_is;
      within = le_more p.cost p.ceiling (plan_within (narrow a) l ok p f);
      few = s.few;
      replayed_as = λ result popped room takes. rw t (replayed_own a l h p f result popped room takes);
      marked_0 = rw t (marked_own a l h p f);
      still = λ k. ap (λ (c : List ℕ). highest (narrowed a.rules) c a.start) (z k) ∙ highest_none (narrowed a.rules) a.start;
      stack = stack_own a l h p f;
    })

found_sound : (a : Asked) (l : Lent) (steps : List ℕ) → (planned_for a l steps).0.found ≡ 1 → SoundAnswer a (planned_for a l steps).0 (planned_for a l steps).1
found_sound a l steps h =
    let k = found_accepted a l steps h in
    let g = when_accepted a l steps k in
    let n = narrow a in
    let q = no_plan (narrowed a.rules) a.start (answered n).plan (answered n).ending (answered n).expansions (ap (λ (z : Answer × List ℕ). z.0.found) (sym g) ∙ h) in
    subst (λ (z : Answer × List ℕ). SoundAnswer a z.0 z.1) (sym g)
    (plan_fields a l steps k (answered n).plan (answered n).ending (answered n).expansions q.0 q.1 q.1 (no_steps_lem n q.0 q.1))

-- of an answer as its caller got it
pub sound_called : (a : Asked) (l : Lent) (steps : List ℕ) (r : Answer) (xs : List ℕ) → (r, xs) ≡ planned_for a l steps → r.found ≡ 1 → SoundAnswer a r xs
sound_called a l steps r xs p h =
    subst (λ (z : Answer × List ℕ). SoundAnswer a z.0 z.1) (sym p) (found_sound a l steps (ap (λ (z : Answer × List ℕ). z.0.found) (sym p) ∙ h))
