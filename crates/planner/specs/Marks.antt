-- A plan that is given, replayed and marked with its own ceiling: it ends at the goal, is marked 0, and its highest window is told alike.
use Rattle.std.specs.Prelude.{ℕ, ◌+◌, ◌≤◌, false, List, ◌≡◌, length}
use Rattle.std.proofs.Math.Bool.{true}
use Rattle.std.specs.Prelude.{Some}
use Rattle.std.proofs.Math.Path.{ap, sym}
use Rattle.std.proofs.Common.{◌∙◌, arith, le-ltb}
use Rattle.costs.specs.Cost.{no_more}
use Rattle.costs.specs.Price.{cost_for_steps}
use Rattle.costs.specs.declared.Cost.{Cost}
use Rattle.replay.specs.Machine.{ends, highest}
use Rattle.replay.specs.Beneath.{narrowed, narrowed_most}
use Rattle.replay.specs.Replay.{reach_fault, replayed, replayed_to}
use Rattle.replay.specs.Laws.{replayed_to_lem}
use Rattle.replay.specs.Highest.{highest_stands}
use Rattle.marking.specs.Marking.{mark_table, mark_refusal, mark_outcome, marked_on, marked}
use Rattle.marking.specs.Laws.{same_refl, outcome_runs, replays}
use Rattle.algebra.specs.GasBytes.{gas_bytes, le_is}
use Rattle.astar.specs.Tests.{T_true}
use Rattle.astar.specs.Planner.{Found}
use Rattle.planner.specs.Refusal.{Asked, Lent, narrow, plan_refusal}
use Rattle.planner.specs.Planned.{answered}
use Rattle.planner.specs.Accepted.{Accepted, accepted, Stands, stands}
use Rattle.planner.specs.Sound.{Sound, plan_sound, plan_within}

within_reach : (dup swap : ℕ) → dup ≤ 16 → swap ≤ 17 → reach_fault dup swap ≡ false
unfolding reach_fault
within_reach dup swap d s = rw (le-ltb 16 dup d, le-ltb 17 swap s)

-- what the planner accepts, marking accepts
mark_accepted : (a : Asked) (l : Lent) → Accepted (narrow a) l → Stands a → (n : ℕ) → n ≤ 65536 → mark_refusal a.rules a.prices a.start a.goal n ≡ 0
unfolding mark_table
mark_accepted a l ok on n h =
    rw (
      within_reach a.rules.dup_max a.rules.swap_max ok.dup ok.swap,
      on.given,
      le-ltb 65536 n h,
      ok.kinds,
      ok.prices,
      ok.start_keys,
      ok.goal_keys,
      on.stack,
      le-ltb a.rules.max_len (length a.start) (omega (arith, ok.start_fits, narrowed_most a.rules)),
      le-ltb a.rules.max_len (length a.goal) (omega (arith, ok.goal_fits, narrowed_most a.rules)),
    )

few_steps : (a : Asked) (l : Lent) (ok : Accepted a l) (p : Found Cost ℕ) → Sound a p → length p.steps ≤ 65536
few_steps a l ok p s = omega (arith, s.few, ok.expansions)

module _ (a : Asked) (l : Lent) (h : plan_refusal a l ≡ 0) (p : Found Cost ℕ) (f : (answered (narrow a)).plan ≡ Some p) where
  own : Sound (narrow a) p
  own = plan_sound (narrow a) l (accepted a l h) p f

  markable : mark_refusal a.rules a.prices a.start a.goal (length p.steps) ≡ 0
  markable = mark_accepted a l (accepted a l h) (stands a l h) (length p.steps) (few_steps (narrow a) l (accepted a l h) p own)

  -- what replay answers, with any lists that it takes
  pub replayed_own : (result popped : List ℕ) → 21 ≤ length result → length p.steps ≤ length popped →
      replayed a.rules a.start p.steps result popped ≡ replayed_to a.rules a.start p.steps a.goal result popped
  replayed_own result popped room takes =
      replayed_to_lem a.rules a.start p.steps a.goal result popped
      (replays a.rules a.prices a.start a.goal (length p.steps) (length result) (length popped) room takes markable)
      own.replays

  -- the whole stack has at most 1,024 items on the way
  pub stack_own : a.rules.beneath + highest (narrowed a.rules) p.steps a.start ≤ 1024
  stack_own = highest_stands a.rules p.steps a.start (accepted a l h).start_fits (stands a l h).stack

  -- and marking, with the plan's own ceiling
  pub marked_own : marked a.rules a.prices a.start a.goal p.steps p.ceiling ≡ record { refusal = 0; index = 0; mark = 0; highest = highest (narrowed a.rules) p.steps a.start }
  unfolding marked_on
  marked_own =
      let within : no_more (cost_for_steps a.prices p.steps) p.ceiling ≡ true =
      ap (λ (c : Cost). no_more c p.ceiling) (sym own.cost_is) ∙ sym (le_is p.cost p.ceiling) ∙ T_true (gas_bytes.le p.cost p.ceiling) (plan_within (narrow a) l (accepted a l h) p f)
      in
      let end : mark_outcome a.rules a.prices a.start a.goal p.steps ≡ ends a.goal =
      outcome_runs a.rules a.prices a.start a.goal p.steps markable ∙ own.replays
      in
      rw (end, within, same_refl a.goal)
