-- Document 01's example of the desk, from input bytes to output bytes, computed from the definitions.
use Rattle.std.specs.Prelude.{ℕ, List, [], ◌∷◌, ◌≡◌, refl, replicate}
use Rattle.std.proofs.Common.{ap, ◌∙◌}
use Rattle.costs.specs.declared.Cost.{Cost}
use Rattle.costs.specs.Cost.{plus, no_more}
use Rattle.costs.specs.Step.{decoded}
use Rattle.replay.specs.Beneath.{narrowed, too_tall, window_above}
use Rattle.replay.specs.Machine.{plain_rules, room, immediate, allows, after, passes, highest}
use Rattle.replay.specs.Replay.{reach_fault}
use Rattle.star_swap.specs.Star.{pick, trail_loop, trail, last_of, circuits, misplaced, star_swaps}
use Rattle.star_swap.specs.Refusal.{unroutable}
use Rattle.builders.specs.Draft.{does, routed}
use Rattle.builders.specs.Dup.{first_at, drop_at, within, trimmed, made, copied, added, added_times, filled, finished, dup_and_star}
use Rattle.builders.specs.Tail.{bury, pops, uncovered, delete_tail, begins, not_tail, tail_plan}
use Rattle.incumbent.specs.Flush.{same_from, common_suffix, with_pops, with_keys, flush_cost}
use Rattle.incumbent.specs.Hand.{Held, in_hand}
use Rattle.astar.specs.Planner.{Answer as Answered}
use Rattle.planner.specs.Refusal.{allowance_fault, over_length, short_lists, plan_table, plan_refusal, narrow}
use Rattle.planner.specs.Planned.{plan_held, given}
use Rattle.planner.specs.declared.Answer.{Answer}
use Rattle.planner.specs.Cases.{no_expansion, when_accepted}
use Rattle.desk_text.specs.Tables.{table, desk_kind, key_price, desk_pair, desk_price, desk_kinds, desk_prices, desk_kinds_lem, desk_prices_lem}
use Rattle.desk_text.specs.Question.{question_of, limits_of}
use Rattle.desk_text.specs.Worked.{the_example, the_answer}
use Rattle.desk_text.specs.declared.read.Limits.{Limits}
use Rattle.desk_answer.specs.Planning.{planning, desk_question, desk_lent}
use Rattle.desk_answer.specs.Desk.{zeros, said, desk_answer}

abbrev limits : Limits
limits = limits_of (16 ∷ 17 ∷ 21 ∷ 0 ∷ 1000 ∷ 1000 ∷ [])

abbrev start : List ℕ
start = 0 ∷ 1 ∷ 2 ∷ []

abbrev goal : List ℕ
goal = 0 ∷ []

-- delete-tail's plan is in hand: swap 2, pop, pop at 7/3
held : in_hand desk_prices (plain_rules 16 17 21 desk_kinds) start goal ≡ record { bound = record { gas = 7; bytes = 3 }; origin = 1; plan = 514 ∷ 0 ∷ 0 ∷ [] }
unfolding in_hand flush_cost with_keys with_pops common_suffix same_from dup_and_star finished filled added_times added copied made trimmed within drop_at first_at routed does tail_plan not_tail begins delete_tail uncovered pops bury unroutable star_swaps misplaced circuits last_of trail trail_loop pick after immediate room decoded plus no_more desk_kinds desk_prices table desk_price desk_pair key_price desk_kind
held = refl

accepted : plan_refusal (desk_question limits start goal) (desk_lent 1000) ≡ 0
unfolding plan_table too_tall window_above reach_fault allowance_fault over_length short_lists
accepted = rw (desk_kinds_lem, desk_prices_lem)

-- the planner's answer to it
abbrev answer : Answer
answer =
    record {
      refusal = 0;
      found = 1;
      step_count = 3;
      plan_gas = 7;
      plan_bytes = 3;
      ceiling_gas = 7;
      ceiling_bytes = 3;
      origin = 1;
      ending = 1;
      expansions = 0;
      highest = 3;
    }

planned_so : planning limits start goal zeros ≡ (answer, 514 ∷ 0 ∷ 0 ∷ replicate 997 0)
unfolding planning window_above zeros highest passes allows after decoded
planned_so =
    let a = desk_question limits start goal in
    when_accepted a (desk_lent 1000) (replicate 1000 0) accepted
    ∙ ap (λ (r : Answered Cost ℕ). given (narrowed a.rules) start r (replicate 1000 0))
    (no_expansion (narrow a) refl refl ∙ ap (λ (h : Held). record { plan = plan_held h; ending = 1; expansions = 0 }) held)

-- document 01's example ("Input")
pub example : desk_answer (question_of (49 ∷ 54 ∷ 32 ∷ 49 ∷ 55 ∷ 32 ∷ 50 ∷ 49 ∷ 32 ∷ 48 ∷ 32 ∷ 49 ∷ 48 ∷ 48 ∷ 48 ∷ 32 ∷ 49 ∷ 48 ∷ 48 ∷ 48 ∷ 10 ∷ 48 ∷ 32 ∷ 49 ∷ 32 ∷ 50 ∷ 10 ∷ 48 ∷ [])) ≡ 49 ∷ 32 ∷ 51 ∷ 32 ∷ 55 ∷ 32 ∷ 51 ∷ 32 ∷ 55 ∷ 32 ∷ 51 ∷ 32 ∷ 49 ∷ 32 ∷ 49 ∷ 32 ∷ 48 ∷ 32 ∷ 51 ∷ 10 ∷ 115 ∷ 119 ∷ 97 ∷ 112 ∷ 32 ∷ 50 ∷ 10 ∷ 112 ∷ 111 ∷ 112 ∷ 10 ∷ 112 ∷ 111 ∷ 112 ∷ 10 ∷ []
example = ap desk_answer the_example ∙ ap said planned_so ∙ the_answer
