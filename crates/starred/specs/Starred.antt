-- The proved set: the questions that document 01 marks with a star in "Questions with known outcomes", one theorem by computation.
use Rattle.std.specs.Prelude.{ℕ, zero, suc, List, [], ◌∷◌, ◌++◌, ◌≡◌, refl, replicate}
use Rattle.costs.specs.Cost.{plus, no_more}
use Rattle.costs.specs.Step.{decoded}
use Rattle.costs.specs.Table.{kinds_fault, prices_fault}
use Rattle.window.specs.Packing.{pack_refusal, packing}
use Rattle.replay.specs.Machine.{plain_rules, above, room, immediate, value, allows, after, ran_on, passes, highest}
use Rattle.replay.specs.Beneath.{too_tall, window_above}
use Rattle.replay.specs.Replay.{reach_fault, replay_table, outcome_on, replayed}
use Rattle.star_swap.specs.Star.{pick, trail_loop, trail, last_of, circuits, misplaced, star_swaps}
use Rattle.star_swap.specs.Refusal.{unroutable, builder_refusal, star_swapped}
use Rattle.builders.specs.Draft.{does, routed}
use Rattle.builders.specs.Dup.{first_at, drop_at, within, trimmed, made, copied, added, added_times, filled, finished, dup_and_star}
use Rattle.builders.specs.Tail.{bury, pops, uncovered, delete_tail, begins, not_tail, deleted, tail_plan}
use Rattle.incumbent.specs.Flush.{same_from, common_suffix, with_pops, with_keys, flush_cost}
use Rattle.incumbent.specs.Hand.{in_hand}
use Rattle.astar.specs.Planner.{plan_of, searched, planned}
use Rattle.astar.specs.Search.{begin}
use Rattle.planner.specs.Refusal.{Asked, Lent, asked, allowances, lent, allowance_fault, over_length, short_lists, plan_table}
use Rattle.planner.specs.Planned.{answered, planned_on, planned_for, refused}
use Rattle.planner.specs.declared.Answer.{Answer}

-- the desk's kinds: keys 0 to 31 values, key 32 zero, the others immediates
abbrev kinds : List ℕ
kinds = replicate 32 0 ++ 2 ∷ replicate 31 1

-- n pairs of a price
abbrev pairs : ℕ → ℕ → ℕ → List ℕ
pairs zero gas bytes = []
pairs (suc n) gas bytes = gas ∷ bytes ∷ pairs n gas bytes

-- the desk's prices: pop 2/1, Dup 3/1, Swap 3/1, keys 0 to 31 values 6/3, key 32 zero 2/1, others immediates 3/2
abbrev prices : List ℕ
prices = 2 ∷ 1 ∷ pairs 33 3 1 ++ pairs 32 6 3 ++ 2 ∷ 1 ∷ pairs 31 3 2

-- a result list and a step list before a call: any content
abbrev sheet : List ℕ
sheet = replicate 21 255

abbrev lines : List ℕ
lines = replicate 128 9999

-- the desk's prices and the allowances 0 1000 1000, with these reaches and this greatest length
abbrev ask : ℕ → ℕ → ℕ → List ℕ → List ℕ → Asked
ask dup swap len start goal = asked (plain_rules dup swap len kinds) prices start goal (allowances 0 1000 1000)

-- the same with the greatest reaches, above so many items
abbrev deep : ℕ → List ℕ → List ℕ → Asked
deep beneath start goal = asked (above beneath (plain_rules 16 17 21 kinds)) prices start goal (allowances 0 1000 1000)

-- work lists of 1,050 entries
abbrev desk : Lent
desk = lent 128 8400 1050 4200

-- an answer with a plan whose cost is its ceiling, without a search
abbrev builders : (count gas bytes origin high : ℕ) → Answer
builders count gas bytes origin high =
    record {
      refusal = 0;
      found = 1;
      step_count = count;
      plan_gas = gas;
      plan_bytes = bytes;
      ceiling_gas = gas;
      ceiling_bytes = bytes;
      origin = origin;
      ending = 1;
      expansions = 0;
      highest = high;
    }

-- no plan, and no search
abbrev not_found : Answer
not_found = record { refusal = 0; found = 0; step_count = 0; plan_gas = 0; plan_bytes = 0; ceiling_gas = 0; ceiling_bytes = 0; origin = 0; ending = 1; expansions = 0; highest = 0 }

-- the start, so long, is the goal
abbrev at_goal : ℕ → Answer
at_goal n = record { refusal = 0; found = 1; step_count = 0; plan_gas = 0; plan_bytes = 0; ceiling_gas = 0; ceiling_bytes = 0; origin = 0; ending = 0; expansions = 0; highest = n }

pub record Starred : Type 0 where
  -- two keys to none: two Pops of dup-and-star
  pub two_pops : planned_for (ask 16 17 21 (0 ∷ 1 ∷ []) []) desk lines ≡ (builders 2 4 2 2 2, 0 ∷ 0 ∷ replicate 126 9999)
  -- one key to two of it: a Dup
  pub one_dup : planned_for (ask 16 17 21 (0 ∷ []) (0 ∷ 0 ∷ [])) desk lines ≡ (builders 1 3 1 2 2, 256 ∷ replicate 127 9999)
  -- and no plan where nothing may be dupped
  pub no_dup : planned_for (ask 0 17 21 (0 ∷ []) (0 ∷ 0 ∷ [])) desk lines ≡ (not_found, lines)
  -- nothing to the zero: its push
  pub push_zero : planned_for (ask 16 17 21 [] (32 ∷ [])) desk lines ≡ (builders 1 2 1 2 1, 800 ∷ replicate 127 9999)
  -- nothing to nothing, without reach: no steps
  pub both_empty : planned_for (ask 16 0 21 [] []) desk lines ≡ (at_goal 0, lines)
  -- a key where there is no reach: too long
  pub no_reach : planned_for (ask 16 0 21 (0 ∷ []) []) desk lines ≡ (refused 6, lines)
  -- a window of 22 keys is too tall
  pub too_tall_row : planned_for (ask 16 17 22 [] []) desk lines ≡ (refused 2, lines)
  -- star-swap through a circuit
  pub swap_1_2_1 : star_swapped 17 (0 ∷ 1 ∷ 2 ∷ []) (0 ∷ 2 ∷ 1 ∷ []) lines ≡ (record { refusal = 0; count = 3 }, 513 ∷ 514 ∷ 513 ∷ replicate 125 9999)
  -- star-swap along one trail
  pub swap_2_1 : star_swapped 17 (0 ∷ 1 ∷ 2 ∷ []) (1 ∷ 2 ∷ 0 ∷ []) lines ≡ (record { refusal = 0; count = 2 }, 514 ∷ 513 ∷ replicate 126 9999)
  -- delete-tail of one key
  pub swap_pop_swap : deleted 17 (0 ∷ 1 ∷ 2 ∷ []) (0 ∷ 1 ∷ []) lines ≡ (record { refusal = 0; count = 3 }, 514 ∷ 0 ∷ 513 ∷ replicate 125 9999)
  -- a key too great for packing
  pub packing_64 : packing 6 21 (64 ∷ []) ≡ record { refusal = 5; lo = 0; hi = 0 }
  -- a Pop that replay does not allow
  pub pop_on_empty : replayed (plain_rules 16 17 21 kinds) [] (0 ∷ []) sheet sheet ≡ (record { refusal = 8; index = 0; length = 0; highest = 0 }, sheet, sheet)
  -- items beneath (request U3): the window ends where the stack does, and 6 reads that; no window is left; one item too many
  pub narrower : planned_for (deep 1023 [] (32 ∷ [])) desk lines ≡ (builders 1 2 1 2 1, 800 ∷ replicate 127 9999)
  pub no_room : planned_for (deep 1023 [] (32 ∷ 32 ∷ [])) desk lines ≡ (refused 6, lines)
  pub none_left : planned_for (deep 1024 [] []) desk lines ≡ (at_goal 0, lines)
  pub one_over : planned_for (deep 1024 (0 ∷ []) []) desk lines ≡ (refused 12, lines)

pub starred : Starred
unfolding packing pack_refusal outcome_on replay_table too_tall window_above reach_fault kinds_fault prices_fault ran_on passes highest allows after room immediate value decoded plus no_more pick trail_loop trail last_of circuits misplaced star_swaps unroutable builder_refusal star_swapped does routed first_at drop_at within trimmed made copied added added_times filled finished dup_and_star bury pops uncovered delete_tail begins not_tail deleted tail_plan same_from common_suffix with_pops with_keys flush_cost in_hand plan_of searched planned begin allowance_fault over_length short_lists plan_table answered planned_on
starred =
    record {
      two_pops = refl;
      one_dup = refl;
      no_dup = refl;
      push_zero = refl;
      both_empty = refl;
      no_reach = refl;
      too_tall_row = refl;
      swap_1_2_1 = refl;
      swap_2_1 = refl;
      swap_pop_swap = refl;
      packing_64 = refl;
      pop_on_empty = refl;
      narrower = refl;
      no_room = refl;
      none_left = refl;
      one_over = refl;
    }
