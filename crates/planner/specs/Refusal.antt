-- The planner's question, and the numbers that refuse it.
use Rattle.std.specs.Prelude.{ℕ, ◌+◌, ◌/◌, max, Bool, ◌||◌, List, ◌≡◌, refl, ltb, length}
use Rattle.costs.specs.Choice.{◌if◌otherwise◌}
use Rattle.costs.specs.Table.{any_over, kinds_fault, prices_fault}
use Rattle.replay.specs.Machine.{Rules}
use Rattle.replay.specs.Beneath.{narrowed, too_tall, Footing, footing}
use Rattle.replay.specs.Replay.{reach_fault}
use Rattle.replay.specs.Rows.{first_rows, key_rows, then_rows, first_over, four_over, keys_over}
use Rattle.astar.specs.Search.{Allowance}

-- what a question has (document 01, "A question comes in"): reaches, greatest length, kinds and the items beneath (request U3); prices; start
-- and goal; allowances
pub record Asked : Type 0 where
  pub rules : Rules
  pub prices : List ℕ
  pub start : List ℕ
  pub goal : List ℕ
  pub allowance : Allowance

-- the three allowances in document 01's order
abbrev pub allowances : ℕ → ℕ → ℕ → Allowance
allowances most without with' = record { expansions = most; states_without = without; states_with = with' }

-- a question from the arguments of a call
abbrev pub asked : Rules → List ℕ → List ℕ → List ℕ → Allowance → Asked
asked q prices start goal A = record { rules = q; prices = prices; start = start; goal = goal; allowance = A }

-- the same question with other rules
abbrev pub ruled_by : Rules → Asked → Asked
ruled_by q a = asked q a.prices a.start a.goal a.allowance

-- the question that is worked out: its rules narrowed
abbrev pub narrow : Asked → Asked
narrow a = ruled_by (narrowed a.rules) a

-- what the items beneath make of a question, by its start
abbrev pub footing_of : Asked → Footing
footing_of a = footing a.rules (length a.start)

-- how many numbers the lent lists have: steps, and the work lists with eight, one and four numbers to an entry
pub record Lent : Type 0 where
  pub steps : ℕ
  pub nodes : ℕ
  pub heads : ℕ
  pub list : ℕ

abbrev pub lent : ℕ → ℕ → ℕ → ℕ → Lent
lent steps nodes heads list = record { steps = steps; nodes = nodes; heads = heads; list = list }

-- row 3: an allowance over 65,536
unfoldable pub allowance_fault : Allowance → Bool
allowance_fault a = ltb 65536 a.expansions || (ltb 65536 a.states_without || ltb 65536 a.states_with)

-- row 6: a window of n keys is longer than swap_max or max_len
unfoldable pub over_length : (swap_max max_len n : ℕ) → Bool
over_length swap_max max_len n = ltb swap_max n || ltb max_len n

abbrev pub too_long : Rules → List ℕ → Bool
too_long q w = over_length q.swap_max q.max_len (length w)

-- the entries that a work list must have: the larger state allowance plus 50
abbrev pub entries : Allowance → ℕ
entries a = max a.states_without a.states_with + 50

-- row 7: a work list of fewer entries, or a step list below the larger of 128 and max_expansions
unfoldable pub short_lists : Allowance → Lent → Bool
short_lists a l =
    ltb (l.nodes / 8) (entries a)
    || (ltb l.heads (entries a)
    || (ltb (l.list / 4) (entries a)
    || ltb l.steps (max 128 a.expansions)))

-- the refusal table on a footing: the first number that applies, or 0; row 6 reads the narrowed window
unfoldable pub plan_table : Footing → Asked → Lent → ℕ
plan_table on a l =
    1 if reach_fault a.rules.dup_max a.rules.swap_max otherwise
    2 if ltb 21 a.rules.max_len otherwise
    3 if allowance_fault a.allowance otherwise
    4 if kinds_fault a.rules.kinds || prices_fault a.prices otherwise
    5 if any_over 63 a.start || any_over 63 a.goal otherwise
    12 if on.over otherwise
    6 if too_long on.runs a.start || too_long on.runs a.goal otherwise
    7 if short_lists a.allowance l otherwise
    0

-- the same on the question's own footing
abbrev pub plan_refusal : Asked → Lent → ℕ
plan_refusal a l = plan_table (footing_of a) a l

-- ---- laws

-- the table in parts: the rows that it shares with other tables, row 4 of the prices between them, and the last
pub plan_parts : (a : Asked) (l : Lent) →
    plan_refusal a l
    ≡ then_rows (first_rows a.rules (allowance_fault a.allowance)) (4 if prices_fault a.prices otherwise then_rows (key_rows a.rules a.start a.goal (too_long (narrowed a.rules) a.start || too_long (narrowed a.rules) a.goal)) (7 if short_lists a.allowance l otherwise 0))
unfolding plan_table first_rows key_rows
plan_parts a l =
    let five = any_over 63 a.start || any_over 63 a.goal in
    let twelve = too_tall a.rules.beneath (length a.start) in
    let six = too_long (narrowed a.rules) a.start || too_long (narrowed a.rules) a.goal in
    let last : ℕ = 7 if short_lists a.allowance l otherwise 0 in
    rw (
      four_over (kinds_fault a.rules.kinds) (prices_fault a.prices) (5 if five otherwise 12 if twelve otherwise 6 if six otherwise last),
      keys_over five twelve six last,
      ← first_over (reach_fault a.rules.dup_max a.rules.swap_max) (ltb 21 a.rules.max_len) (allowance_fault a.allowance) (kinds_fault a.rules.kinds) (4 if prices_fault a.prices otherwise then_rows (5 if five otherwise 12 if twelve otherwise 6 if six otherwise 0) last),
    )
    refl
