-- What stepping back answers (requests U2, U3): its refusals, its answer and its result list.
use Rattle.std.specs.Prelude.{ℕ, ◌||◌, List, length, eqb, ltb}
use Rattle.std.specs.Prelude.{Option, None, Some}
use Rattle.costs.specs.Choice.{◌if◌otherwise◌}
use Rattle.costs.specs.Table.{any_over, kinds_fault}
use Rattle.replay.specs.Machine.{Rules}
use Rattle.replay.specs.Beneath.{Footing, footing}
use Rattle.replay.specs.Replay.{reach_fault, over}
use Rattle.rewind.specs.Walk.{start_before}
use Rattle.rewind.specs.declared.Rewound.{Rewound}

-- the refusal table on a footing, for an end window, a count of steps, popped keys and a result list of so many places: the first number that
-- applies, or 0
unfoldable pub rewind_table : Footing → Rules → List ℕ → ℕ → List ℕ → ℕ → ℕ
rewind_table on q end steps popped places =
    1 if reach_fault q.dup_max q.swap_max otherwise
    2 if ltb 21 q.max_len otherwise
    3 if ltb 65536 steps otherwise
    4 if kinds_fault q.kinds otherwise
    5 if any_over 63 end || any_over 63 popped otherwise
    12 if on.over otherwise
    6 if ltb q.max_len (length end) otherwise
    7 if ltb places 21 otherwise
    0

-- the same with what lies beneath the end window
abbrev pub rewind_refusal : Rules → List ℕ → ℕ → List ℕ → ℕ → ℕ
rewind_refusal q end steps popped places = rewind_table (footing q (length end)) q end steps popped places

-- the answer and the result list beside a number: the length is zero and the list untouched
abbrev pub refused : ℕ → List ℕ → Rewound × List ℕ
refused n old = (record { refusal = n; length = 0 }, old)

-- the start over the first places, the rest untouched
abbrev pub given : List ℕ → List ℕ → Rewound × List ℕ
given start old = (record { refusal = 0; length = length start }, over start old)

-- 11 where there is no start
abbrev pub found : Option (List ℕ) → List ℕ → Rewound × List ℕ
found None old = refused 11 old
found (Some start) old = given start old

-- stepping back's answer and its result list, on a footing
unfoldable pub rewound_on : Footing → Rules → List ℕ → List ℕ → List ℕ → List ℕ → Rewound × List ℕ
rewound_on on q end steps popped result =
    found (start_before on.runs end steps popped) result if eqb (rewind_table on q end (length steps) popped (length result)) 0 otherwise
    refused (rewind_table on q end (length steps) popped (length result)) result

-- stepping back's answer and its result list: the walk back goes by the narrowed rules
abbrev pub rewound : Rules → List ℕ → List ℕ → List ℕ → List ℕ → Rewound × List ℕ
rewound q end steps popped result = rewound_on (footing q (length end)) q end steps popped result
