-- What the desk reads, six limits and two lists of keys, or nothing: document 01, "The exam desk program".
use Rattle.std.specs.Prelude.{ℕ, List, [], ◌∷◌, map, eqb, ltb, length, get_or}
use Rattle.std.specs.Prelude.{Option, None, Some}
use Rattle.costs.specs.Choice.{◌if◌otherwise◌}
use Rattle.desk_text.specs.declared.read.Limits.{Limits}
use Rattle.desk_text.specs.declared.read.Question.{Question}
use Rattle.desk_text.specs.Grammar.{lines_from, line_numbers}

-- the first line's numbers in their order ("`desk` reads")
abbrev pub limits_of : List ℕ → Limits
limits_of ns =
    record {
      dup_max = get_or ns 0 0;
      swap_max = get_or ns 1 0;
      max_len = get_or ns 2 0;
      max_expansions = get_or ns 3 0;
      states_without = get_or ns 4 0;
      states_with = get_or ns 5 0;
    }

-- numbers, if they are six ("A missing line")
abbrev pub six : Option (List ℕ) → Option (List ℕ)
six None = None
six (Some ns) = Some ns if eqb (length ns) 6 otherwise None

-- a question as it is read: the first line's numbers, the numbers of the start's line and of the goal's ("`desk` reads")
pub record Asked : Type 0 where
  pub limits : List ℕ
  pub start : List ℕ
  pub goal : List ℕ

-- the first three lines, if there are as many ("what follows the third line", "A missing line")
abbrev pub first_three : List (List ℕ) → Option (List ℕ × List ℕ × List ℕ)
first_three [] = None
first_three (a ∷ []) = None
first_three (a ∷ b ∷ []) = None
first_three (a ∷ b ∷ c ∷ more) = Some (a, b, c)

-- the question of three lines' numbers, if each line is readable
abbrev pub all_of : Option (List ℕ) → Option (List ℕ) → Option (List ℕ) → Option Asked
all_of None s g = None
all_of (Some l) None g = None
all_of (Some l) (Some s) None = None
all_of (Some l) (Some s) (Some g) = Some (record { limits = l; start = s; goal = g })

-- the question of three lines, the first of six numbers
abbrev pub of_three : Option (List ℕ × List ℕ × List ℕ) → Option Asked
of_three None = None
of_three (Some (a, b, c)) = all_of (six (line_numbers a)) (line_numbers b) (line_numbers c)

-- the question that a text asks; none prints `unreadable`
unfoldable pub question_of : List ℕ → Option Asked
question_of text = of_three (first_three (lines_from [] text))

-- a number as a key byte: one that is no byte becomes 255, which is refused as 5 like every key of 64 or more (document 01, "A question comes in", number 5)
abbrev pub key_of : ℕ → ℕ
key_of n = n if ltb n 256 otherwise 255

-- what the reader answers: the limits, and the key bytes of start and goal
abbrev pub read_as : Option Asked → Option Question
read_as None = None
read_as (Some q) = Some (record { limits = limits_of q.limits; start = map key_of q.start; goal = map key_of q.goal })
