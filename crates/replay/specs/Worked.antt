-- Worked examples, computed by the definitions.
use Rattle.std.specs.Prelude.{ℕ, List, [], ◌∷◌, ◌++◌, ◌≡◌, refl, replicate}
use Rattle.costs.specs.Step.{decoded}
use Rattle.costs.specs.Table.{kinds_fault}
use Rattle.replay.specs.Machine.{plain_rules, above, room, immediate, value, allows, after, ran_on, passes, highest, popped_on}
use Rattle.replay.specs.Beneath.{too_tall, window_above}
use Rattle.replay.specs.Replay.{reach_fault, replay_table, outcome_on, replayed}

-- 32 values, the immediate zero, 31 other immediates
abbrev kinds : List ℕ
kinds = replicate 32 0 ++ 2 ∷ replicate 31 1

abbrev sheet : List ℕ
sheet = replicate 21 255

-- 0 1 2 by swap 2, pop, swap 1 is 0 1, and 2 was popped
delete_tail_lem : replayed (plain_rules 16 17 21 kinds) (0 ∷ 1 ∷ 2 ∷ []) (514 ∷ 0 ∷ 513 ∷ []) sheet sheet ≡ (record { refusal = 0; index = 0; length = 2; highest = 3 }, 0 ∷ 1 ∷ replicate 19 255, 2 ∷ replicate 20 255)
unfolding outcome_on replay_table too_tall window_above reach_fault kinds_fault ran_on passes highest popped_on allows after room immediate value decoded
delete_tail_lem = refl

-- a greatest length of 22 is refusal 2, and a Pop with an operand is no step
too_long : replayed (plain_rules 16 17 22 kinds) [] [] sheet sheet ≡ (record { refusal = 2; index = 0; length = 0; highest = 0 }, sheet, sheet)
unfolding outcome_on replay_table too_tall window_above reach_fault kinds_fault ran_on
too_long = refl

with_operand : replayed (plain_rules 16 17 21 kinds) (0 ∷ []) (256 ∷ 1 ∷ []) sheet sheet ≡ (record { refusal = 8; index = 1; length = 0; highest = 0 }, sheet, sheet)
unfolding outcome_on replay_table too_tall window_above reach_fault kinds_fault ran_on allows after room immediate value decoded
with_operand = refl

-- the highest window by itself: a Dup and a Pop pass three keys between two and two
dup_then_pop : replayed (plain_rules 16 17 21 kinds) (0 ∷ 1 ∷ []) (257 ∷ 0 ∷ []) sheet sheet ≡ (record { refusal = 0; index = 0; length = 2; highest = 3 }, 0 ∷ 1 ∷ replicate 19 255, 1 ∷ replicate 20 255)
unfolding outcome_on replay_table too_tall window_above reach_fault kinds_fault ran_on passes highest popped_on allows after room immediate value decoded
dup_then_pop = refl

-- where windows only shrink it is the start
start_highest : replayed (plain_rules 16 17 21 kinds) (0 ∷ 1 ∷ []) (0 ∷ 0 ∷ []) sheet sheet ≡ (record { refusal = 0; index = 0; length = 0; highest = 2 }, sheet, 0 ∷ 1 ∷ replicate 19 255)
unfolding outcome_on replay_table too_tall window_above reach_fault kinds_fault ran_on passes highest popped_on allows after room immediate value decoded
start_highest = refl

-- 1,023 items beneath: one key may be pushed, no second
one_more : replayed (above 1023 (plain_rules 16 17 21 kinds)) [] (801 ∷ 801 ∷ []) sheet sheet ≡ (record { refusal = 8; index = 1; length = 0; highest = 0 }, sheet, sheet)
unfolding outcome_on replay_table too_tall window_above reach_fault kinds_fault ran_on allows after room immediate value decoded
one_more = refl

-- 1,024 beneath an empty window are accepted, beneath one key 12, though max_len 0 would be 6
full : replayed (above 1024 (plain_rules 16 17 21 kinds)) [] [] sheet sheet ≡ (record { refusal = 0; index = 0; length = 0; highest = 0 }, sheet, sheet)
unfolding outcome_on replay_table too_tall window_above reach_fault kinds_fault ran_on passes highest popped_on
full = refl

too_tall_row : replayed (above 1024 (plain_rules 16 17 0 kinds)) (0 ∷ []) [] sheet sheet ≡ (record { refusal = 12; index = 0; length = 0; highest = 0 }, sheet, sheet)
unfolding outcome_on replay_table too_tall window_above reach_fault kinds_fault ran_on
too_tall_row = refl

-- a key of 64 is 5 before
key_first : replayed (above 1024 (plain_rules 16 17 21 kinds)) (64 ∷ []) [] sheet sheet ≡ (record { refusal = 5; index = 0; length = 0; highest = 0 }, sheet, sheet)
unfolding outcome_on replay_table too_tall window_above reach_fault kinds_fault ran_on
key_first = refl
