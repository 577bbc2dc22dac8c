-- Worked examples, computed by the definitions.
use Rattle.std.specs.Prelude.{List, [], ◌∷◌, ◌++◌, ◌≡◌, refl, ℕ, replicate}
use Rattle.costs.specs.Step.{decoded}
use Rattle.costs.specs.Table.{kinds_fault}
use Rattle.replay.specs.Machine.{plain_rules, above, room, immediate, value, allows, after}
use Rattle.replay.specs.Beneath.{too_tall, window_above}
use Rattle.replay.specs.Replay.{reach_fault}
use Rattle.rewind.specs.Walk.{back_over, walked_back, start_before}
use Rattle.rewind.specs.Rewind.{rewind_table, refused, given, rewound_on, rewound}

-- 32 values, the immediate zero, 31 other immediates
abbrev kinds : List ℕ
kinds = replicate 32 0 ++ 2 ∷ replicate 31 1

abbrev sheet : List ℕ
sheet = replicate 21 255

-- swap 2, pop, swap 1 led to 0 1 with 2 popped: from 0 1 2
tail_back : rewound (plain_rules 16 17 21 kinds) (0 ∷ 1 ∷ []) (514 ∷ 0 ∷ 513 ∷ []) (2 ∷ []) sheet ≡ given (0 ∷ 1 ∷ 2 ∷ []) sheet
unfolding rewound_on rewind_table too_tall window_above reach_fault kinds_fault start_before walked_back back_over allows after room immediate value decoded
tail_back = refl

-- two pops took 0, then 1: the first popped is put back last
two_back : rewound (plain_rules 16 17 21 kinds) [] (0 ∷ 0 ∷ []) (0 ∷ 1 ∷ []) sheet ≡ given (0 ∷ 1 ∷ []) sheet
unfolding rewound_on rewind_table too_tall window_above reach_fault kinds_fault start_before walked_back back_over allows after room immediate value decoded
two_back = refl

-- a popped key too many; a Dup whose source has another key; a Pop from a full window
too_many : rewound (plain_rules 16 17 21 kinds) [] (0 ∷ []) (0 ∷ 1 ∷ []) sheet ≡ refused 11 sheet
unfolding rewound_on rewind_table too_tall window_above reach_fault kinds_fault start_before walked_back back_over allows after room immediate value decoded
too_many = refl

no_source : rewound (plain_rules 16 17 21 kinds) (0 ∷ 1 ∷ []) (256 ∷ []) [] sheet ≡ refused 11 sheet
unfolding rewound_on rewind_table too_tall window_above reach_fault kinds_fault start_before walked_back back_over allows after room immediate value decoded
no_source = refl

too_full : rewound (plain_rules 16 17 1 kinds) (0 ∷ []) (0 ∷ []) (1 ∷ []) sheet ≡ refused 11 sheet
unfolding rewound_on rewind_table too_tall window_above reach_fault kinds_fault start_before walked_back back_over allows after room immediate value decoded
too_full = refl

-- a popped key of 64 is 5
popped_64 : rewound (plain_rules 16 17 21 kinds) [] (0 ∷ []) (64 ∷ []) sheet ≡ refused 5 sheet
unfolding rewound_on rewind_table too_tall window_above reach_fault kinds_fault
popped_64 = refl

-- above 1,023 items a Pop that led to one key had a start of two, which does not stand there; one that led to none had a start of one
no_room : rewound (above 1023 (plain_rules 16 17 21 kinds)) (0 ∷ []) (0 ∷ []) (1 ∷ []) sheet ≡ refused 11 sheet
unfolding rewound_on rewind_table too_tall window_above reach_fault kinds_fault start_before walked_back back_over allows after room immediate value decoded
no_room = refl

last_room : rewound (above 1023 (plain_rules 16 17 21 kinds)) [] (0 ∷ []) (1 ∷ []) sheet ≡ given (1 ∷ []) sheet
unfolding rewound_on rewind_table too_tall window_above reach_fault kinds_fault start_before walked_back back_over allows after room immediate value decoded
last_room = refl

-- an end of two keys there is too tall, though max_len 1 would be 6
too_tall_row : rewound (above 1023 (plain_rules 16 17 1 kinds)) (0 ∷ 1 ∷ []) [] [] sheet ≡ refused 12 sheet
unfolding rewound_on rewind_table too_tall window_above reach_fault kinds_fault
too_tall_row = refl
