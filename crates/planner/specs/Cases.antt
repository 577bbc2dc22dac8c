-- The answer by cases, as laws for the code.
use Rattle.std.specs.Prelude.{ℕ, ◌≤◌, Bool, true, false, List, [], ◌++◌, ◌≡◌, refl, eqb, length, take, drop}
use Rattle.std.specs.Prelude.{Option, None, Some}
use Rattle.std.proofs.Common.{ap, sym, ◌∙◌, arith, take-append-drop}
use borrow.Author.Tests.{ne_eqb}
use Rattle.costs.specs.Choice.{◌if◌otherwise◌}
use Rattle.costs.specs.declared.Cost.{Cost}
use Rattle.replay.specs.Machine.{Rules, highest}
use Rattle.replay.specs.Beneath.{narrowed}
use Rattle.replay.specs.Highest.{highest_none}
use Rattle.window.specs.Pack.{pack}
use Rattle.algebra.specs.GasBytes.{gas_bytes}
use Rattle.astar.specs.Search.{begin}
use Rattle.astar.specs.Planner.{Found, Answer as Answered, given as isGiven, plan_of, searched, planned}
use Rattle.successors.specs.Successors.{Question}
use Rattle.problem.specs.Problem.{problem_of}
use Rattle.std.specs.Option.{is_some}
use Rattle.std.proofs.Common.{length-take-le}
use Rattle.astar.specs.Search.{number}
use Rattle.incumbent.specs.Hand.{held_of, held_with, origin_number}
use Rattle.incumbent.specs.declared.Hand.{Hand}
use Rattle.incumbent.specs.declared.plans.Plan.{Plan as HeldPlan}
use Rattle.incumbent.specs.declared.plans.Origin.{Origin}
use Rattle.incumbent.specs.declared.plans.Origin.TheVariants.{DeleteTail, DupAndStar}
use Rattle.planner.specs.Refusal.{Asked, Lent, narrow, plan_refusal}
use Rattle.planner.specs.Planned.{question_of, listed, plan_held, before, answered, bare_of, fields_of, refused, given, planned_on, planned_for, WorkKept}
use Rattle.planner.specs.Given.{answer_with}
use Rattle.run.specs.Ending.{ended_by}
use Rattle.run.specs.View.{allowance}
use Rattle.run.specs.declared.Allowances.{Allowances}
use Rattle.solve.specs.View.{told, plan_told, steps_in, Searched}
use Rattle.solve.specs.declared.Outcome.{Outcome}
use Rattle.solve.specs.declared.Plan.{Plan as SearchPlan}
use Rattle.planner.specs.declared.Answer.{Answer}
use Rattle.planner.specs.declared.Source.TheVariants.{Search}

-- the plan of no steps
abbrev pub no_steps : Found Cost ℕ
no_steps = record { origin = 0; steps = []; cost = gas_bytes.𝟘; ceiling = gas_bytes.𝟘 }

module _ (a : Asked) where
  pub at_goal_lem : eqb (pack 6 a.start) (pack 6 a.goal) ≡ true → answered a ≡ record { plan = Some no_steps; ending = 0; expansions = 0 }
  unfolding answered planned
  at_goal_lem h = rw h

  pub no_expansion : eqb (pack 6 a.start) (pack 6 a.goal) ≡ false → a.allowance.expansions ≡ 0 → answered a ≡ record { plan = plan_held (before a); ending = 1; expansions = 0 }
  unfolding answered planned plan_of begin
  no_expansion h e = rw (h, e)

  pub by_search : eqb (pack 6 a.start) (pack 6 a.goal) ≡ false → (a.allowance.expansions ≡ 0 → ⊥) →
      answered a ≡ searched gas_bytes (problem_of (question_of a) a.start) (listed a.prices) 50 (before a).bound (plan_held (before a)) a.allowance
  unfolding answered planned
  by_search h n = rw (h, ne_eqb a.allowance.expansions 0 n)

-- without a step the highest window is the start
pub still : (q : Rules) (start : List ℕ) → bare_of 0 1 0 0 (length start) ≡ fields_of q start (Some no_steps) 0 0
still q start = ap (bare_of 0 1 0 0) (sym (highest_none q start))

-- a refused call, and an accepted one
pub when_refused : (a : Asked) (l : Lent) (steps : List ℕ) (n : ℕ) → n ≡ plan_refusal a l → (n ≡ 0 → ⊥) → planned_for a l steps ≡ (refused n, steps)
unfolding planned_on
when_refused a l steps n e h = rw (← e, ne_eqb n 0 h)

pub when_accepted : (a : Asked) (l : Lent) (steps : List ℕ) → plan_refusal a l ≡ 0 → planned_for a l steps ≡ given (narrowed a.rules) a.start (answered (narrow a)) steps
unfolding planned_on
when_accepted a l steps e = rw e

-- what a hand holds: its bound, and a plan where it has one
pub held_bound : (h : Hand) (held : List ℕ) → (held_of h held).bound ≡ h.bound
held_bound h held = go h.plan
  where
    go : (o : Option HeldPlan) → (held_with h.bound o held).bound ≡ h.bound
    go None = refl
    go (Some p) = refl

pub held_given : (h : Hand) (held : List ℕ) → isGiven (plan_held (held_of h held)) ≡ is_some h.plan
held_given h held = go h.plan
  where
    go : (o : Option HeldPlan) → isGiven (plan_held (held_with h.bound o held)) ≡ is_some o
    go None = refl
    go (Some p) = by_origin p.origin
      where
        by_origin : (o : Origin) → isGiven {A = Found Cost ℕ} (None if eqb (origin_number o) 0 otherwise Some (record { origin = origin_number o; steps = take p.count held; cost = h.bound; ceiling = h.bound })) ≡ true
        by_origin DeleteTail = refl
        by_origin DupAndStar = refl

-- ---- the search's outcome

-- a search with a hand, over a step list
module _ (q : Question) (start : List ℕ) (l : Allowances) (h : Hand) (held : List ℕ) (bound : Cost) (have : Bool) (r : Outcome) (xs ys : List ℕ) (S : Searched q start l bound have r xs ys) (bounded : bound ≡ h.bound) (same : have ≡ is_some h.plan) where
  -- what it comes to
  abbrev found : Answered Cost ℕ
  found = searched gas_bytes (problem_of q start) (listed q.prices) 50 (held_of h held).bound (plan_held (held_of h held)) (allowance l)

  abbrev ended : ℕ
  ended = number (ended_by r.ending)

  told_is : told (plan_held (held_of h held)) r ys ≡ found
  told_is =
      S.answer (plan_held (held_of h held)) (held_given h held ∙ sym same)
      ∙ ap (λ (c : Cost). searched gas_bytes (problem_of q start) (listed q.prices) 50 c (plan_held (held_of h held)) (allowance l)) (bounded ∙ sym (held_bound h held))

  -- with a plan of its own
  pub searched_found : (p : SearchPlan) → r.plan ≡ Some p → (high : ℕ) → high ≡ highest q.rules (take p.steps ys) start →
      ◌≡◌ {A = Answer × List ℕ} (answer_with ended r.expansions (Some (record { source = Search; count = p.steps; cost = p.cost; ceiling = p.ceiling; highest = high })), ys) (given q.rules start found xs)
  searched_found p e high k =
      let f : p.steps ≤ length ys = omega (arith, S.fits, ap steps_in e) in
      let n : length (take p.steps ys) ≡ p.steps = length-take-le p.steps ys f in
      let d : drop p.steps ys ≡ drop p.steps xs = ap (λ (o : Option SearchPlan). drop (steps_in o) ys) (sym e) ∙ S.rest ∙ ap (λ (o : Option SearchPlan). drop (steps_in o) xs) e in
      let t : take p.steps ys ++ drop p.steps xs ≡ ys = ap (λ (z : List ℕ). take p.steps ys ++ z) (sym d) ∙ take-append-drop p.steps ys in
      let g : ◌≡◌ {A = Answered Cost ℕ} (record { plan = Some (record { origin = 3; steps = take p.steps ys; cost = p.cost; ceiling = p.ceiling }); ending = ended; expansions = r.expansions }) found =
      ap (λ (o : Option SearchPlan). record { plan = plan_told (plan_held (held_of h held)) o ys; ending = ended; expansions = r.expansions }) (sym e) ∙ told_is in
      rw (← g, n, t, k)

  -- without one the builders' plan is the answer's, and no step was written
  pub searched_lost : r.plan ≡ None → record { plan = plan_held (held_of h held); ending = ended; expansions = r.expansions } ≡ found
  searched_lost e = ap (λ (o : Option SearchPlan). record { plan = plan_told (plan_held (held_of h held)) o ys; ending = ended; expansions = r.expansions }) (sym e) ∙ told_is

  pub unwritten : r.plan ≡ None → ys ≡ xs
  unwritten e = ap (λ (o : Option SearchPlan). drop (steps_in o) ys) (sym e) ∙ S.rest ∙ ap (λ (o : Option SearchPlan). drop (steps_in o) xs) e

pub work_same : (n : ℕ) (old : List ℕ) → WorkKept n old old
work_same n old = record { same_length = refl; unchanged = λ _. refl }

pub work_free : (n : ℕ) (old new : List ℕ) → n ≡ 0 → length new ≡ length old → WorkKept n old new
work_free n old new z l = record { same_length = l; unchanged = λ h. absurd (h z) }
