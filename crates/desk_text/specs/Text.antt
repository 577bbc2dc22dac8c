-- What the desk prints, ASCII bytes, each line ended by a line feed: document 01, "The exam desk program".
use Rattle.std.specs.Prelude.{ℕ, zero, suc, ◌+◌, ◌/◌, ◌%◌, List, [], ◌∷◌, ◌++◌, eqb, length, drop}
use Rattle.costs.specs.Choice.{◌if◌otherwise◌}
use Rattle.costs.specs.declared.Step.{Step}
use Rattle.costs.specs.declared.Step.TheVariants.{Pop, Dup, Swap, PushImm, LoadVal}
use Rattle.std.specs.Prelude.{Option, Some, None}
use Rattle.costs.specs.Step.{decoded}
use Rattle.desk_text.specs.declared.print.Fields.{Fields}
use Rattle.desk_text.specs.declared.print.Spoken.{Spoken}
use Rattle.desk_text.specs.declared.print.Spoken.TheVariants.{Plan, Refused, Unreadable}

-- the digits of a number in so many turns, none for 0
unfoldable pub lead_in : ℕ → ℕ → List ℕ
lead_in zero n = []
lead_in (suc k) n = [] if eqb n 0 otherwise (lead_in k (n / 10) ++ ((48 + n % 10) ∷ []))

-- the digits of a number, none for 0
unfoldable pub lead : ℕ → List ℕ
lead n = lead_in n n

-- the decimal digits of a number, with no leading zero but that of 0 itself
unfoldable pub decimal : ℕ → List ℕ
decimal n = lead (n / 10) ++ ((48 + n % 10) ∷ [])

-- a line of numbers parted by single spaces (as the example's `1 3 7 3 7 3 1 1 0 3`)
unfoldable pub line_text : List ℕ → List ℕ
line_text [] = []
line_text (n ∷ []) = decimal n ++ (10 ∷ [])
line_text (n ∷ m ∷ ms) = decimal n ++ (32 ∷ line_text (m ∷ ms))

-- a line of a word, with the space behind it, and a number (as `swap 2`, `refused 6`)
abbrev pub word_line : List ℕ → ℕ → List ℕ
word_line word n = word ++ (decimal n ++ (10 ∷ []))

-- a step's line (`pop`, `dup 0`, `swap 2`, `push 32`, `load 5`)
abbrev pub step_text : Step → List ℕ
step_text Pop = 112 ∷ 111 ∷ 112 ∷ 10 ∷ []
step_text (Dup p) = word_line (100 ∷ 117 ∷ 112 ∷ 32 ∷ []) p
step_text (Swap d) = word_line (115 ∷ 119 ∷ 97 ∷ 112 ∷ 32 ∷ []) d
step_text (PushImm k) = word_line (112 ∷ 117 ∷ 115 ∷ 104 ∷ 32 ∷ []) k
step_text (LoadVal k) = word_line (108 ∷ 111 ∷ 97 ∷ 100 ∷ 32 ∷ []) k

-- the line of a step's code; a code that stands for no step prints nothing, and a plan has none
abbrev pub code_text : Option Step → List ℕ
code_text (Some s) = step_text s
code_text None = []

-- the steps one a line (as in the example)
unfoldable pub steps_text : List ℕ → List ℕ
steps_text [] = []
steps_text (c ∷ cs) = code_text (decoded c) ++ steps_text cs

-- the nine fields, in the order of "The planner's answer", and the highest window (request U1)
abbrev pub fields_of : Fields → List ℕ
fields_of a =
    a.found ∷ a.step_count ∷ a.plan_gas ∷ a.plan_bytes ∷ a.ceiling_gas ∷ a.ceiling_bytes ∷ a.origin ∷ a.ending ∷ a.expansions ∷ a.highest ∷ []

-- the answer's line and the plan's steps (as in the example)
abbrev pub plan_text : Fields → List ℕ → List ℕ
plan_text a steps = line_text (fields_of a) ++ steps_text steps

-- what the desk prints: an answer, a refusal's one line, or `unreadable`
abbrev pub desk_text : Spoken → List ℕ → List ℕ
desk_text (Plan a) steps = plan_text a steps
desk_text (Refused n) steps = word_line (114 ∷ 101 ∷ 102 ∷ 117 ∷ 115 ∷ 101 ∷ 100 ∷ 32 ∷ []) n
desk_text Unreadable steps = 117 ∷ 110 ∷ 114 ∷ 101 ∷ 97 ∷ 100 ∷ 97 ∷ 98 ∷ 108 ∷ 101 ∷ 10 ∷ []

-- how long a text is, and the text over the first places of a buffer, the rest untouched
abbrev pub printed : List ℕ → List ℕ → ℕ × List ℕ
printed text old = (length text, text ++ drop (length text) old)
