-- What the desk asks of the planner: document 01, "The exam desk program".
use Rattle.std.specs.Prelude.{ℕ, ◌*◌, ◌≤◌, Bool, true, false, ◌≡◌, T, eqb}
use mathlib.Core.List.{List}
use Rattle.std.specs.Prelude.{Option, None, Some}
use Rattle.std.proofs.Math.Path.{refl}
use Rattle.std.proofs.Common.{eqb→eq, arith}
use Rattle.std.proofs.Math.ListN.{length}
use Rattle.costs.specs.Choice.{◌if◌otherwise◌}
use Rattle.costs.specs.declared.Cost.{Cost}
use Rattle.replay.specs.Machine.{Rules, plain_rules}
use Rattle.replay.specs.Beneath.{narrowed, alone}
use Rattle.astar.specs.Planner.{Found}
use Rattle.planner.specs.declared.Answer.{Answer}
use Rattle.planner.specs.Refusal.{Asked, Lent, asked, allowances, lent, narrow, plan_refusal}
use Rattle.planner.specs.Planned.{answered, fields_of, refused, given, planned_on, planned_for}
use Rattle.planner.specs.Accepted.{accepted}
use Rattle.planner.specs.Sound.{plan_sound}
use Rattle.planner.specs.Before.{planned_before}
use Rattle.desk_text.specs.Tables.{desk_kinds, desk_prices}
use Rattle.desk_text.specs.declared.read.Limits.{Limits}

-- the planner's question: what was read, with the desk's kinds and price list and nothing beneath the window
abbrev pub desk_question : Limits → List ℕ → List ℕ → Asked
desk_question l start goal =
    asked (plain_rules l.dup_max l.swap_max l.max_len desk_kinds) desk_prices start goal
    (allowances l.max_expansions l.states_without l.states_with)

-- what the desk lends: a step list, and work lists of 1,050 entries with eight, one and four numbers to an entry
abbrev pub desk_lent : ℕ → Lent
desk_lent steps = lent steps (8 * 1050) 1050 (4 * 1050)

-- the planner's answer to the desk's question, with the step list after it
unfoldable pub planning : Limits → List ℕ → List ℕ → List ℕ → Answer × List ℕ
planning l start goal steps = planned_for (desk_question l start goal) (desk_lent (length steps)) steps

-- old answers remain: the desk has nothing beneath the window (request U3)
pub planning_before : (l : Limits) (start goal steps : List ℕ) → length start ≤ 1024 →
    planning l start goal steps ≡ planned_on (alone (desk_question l start goal).rules) (desk_question l start goal) (desk_lent (length steps)) steps
unfolding planning
planning_before l start goal steps h = planned_before (desk_question l start goal) (desk_lent (length steps)) steps refl h

-- ---- a plan has room in the step list that was lent

few_steps : (q : Rules) (start : List ℕ) (o : Option (Found Cost ℕ)) (e x n : ℕ) → ((p : Found Cost ℕ) → o ≡ Some p → length p.steps ≤ n) → (fields_of q start o e x).step_count ≤ n
few_steps q start None e x n h = omega arith
few_steps q start (Some p) e x n h = h p refl

-- what holds of an answer where the test holds, and of a refusal, holds of the choice
by_choice : (P : Answer × List ℕ → Type 0) (x y : Answer × List ℕ) (b : Bool) → (T b → P x) → P y → P (x if b otherwise y)
by_choice P x y true p q = p tt
by_choice P x y false p q = q

module _ (a : Asked) (l : Lent) where
  -- an accepted answer, and a refusal
  abbrev is_given : List ℕ → Answer × List ℕ
  is_given xs = given (narrowed a.rules) a.start (answered (narrow a)) xs

  abbrev not_given : List ℕ → Answer × List ℕ
  not_given xs = (refused (plan_refusal a l), xs)

  -- row 7 leaves a place for each step
  plan_fits : T (eqb (plan_refusal a l) 0) → (p : Found Cost ℕ) → (answered (narrow a)).plan ≡ Some p → length p.steps ≤ l.steps
  plan_fits t p f =
      let ok = accepted a l (eqb→eq (plan_refusal a l) 0 t) in
      omega (arith, (plan_sound (narrow a) l ok p f).few, ok.steps)

  answer_count : (xs : List ℕ) → (planned_for a l xs).0.step_count ≤ l.steps
  unfolding planned_on
  answer_count xs =
      by_choice (λ (t : Answer × List ℕ). t.0.step_count ≤ l.steps) (is_given xs) (not_given xs) (eqb (plan_refusal a l) 0)
      (λ t. few_steps (narrowed a.rules) a.start (answered (narrow a)).plan (answered (narrow a)).ending (answered (narrow a)).expansions l.steps (plan_fits t))
      (omega arith)

pub planned_count : (l : Limits) (start goal steps : List ℕ) → (planning l start goal steps).0.step_count ≤ length steps
unfolding planning
planned_count l start goal steps = answer_count (desk_question l start goal) (desk_lent (length steps)) steps
