-- Worked inputs and outputs of document 01, computed from the definitions.
use Rattle.std.specs.Prelude.{ℕ, List, [], ◌∷◌, ◌++◌, ◌≡◌, refl}
use Rattle.std.specs.Prelude.{None, Some}
use Rattle.costs.specs.Step.{decoded}
use Rattle.desk_text.specs.Grammar.{lines_from, words_from, is_digit, all_digits, value_from, is_number, number_of, all_read, line_numbers}
use Rattle.desk_text.specs.Question.{question_of, key_of}
use Rattle.desk_text.specs.Text.{lead_in, lead, decimal, line_text, steps_text, desk_text}
use Rattle.desk_text.specs.declared.print.Spoken.TheVariants.{Plan, Refused}

-- the first line, with its line feed
abbrev limits : List ℕ
limits = 49 ∷ 54 ∷ 32 ∷ 49 ∷ 55 ∷ 32 ∷ 50 ∷ 49 ∷ 32 ∷ 48 ∷ 32 ∷ 49 ∷ 48 ∷ 48 ∷ 48 ∷ 32 ∷ 49 ∷ 48 ∷ 48 ∷ 48 ∷ 10 ∷ []

abbrev six : List ℕ
six = 16 ∷ 17 ∷ 21 ∷ 0 ∷ 1000 ∷ 1000 ∷ []

-- `0 1 2`, `0`, the last line without a line feed
pub the_example : question_of (limits ++ (48 ∷ 32 ∷ 49 ∷ 32 ∷ 50 ∷ 10 ∷ 48 ∷ [])) ≡ Some (record { limits = six; start = 0 ∷ 1 ∷ 2 ∷ []; goal = 0 ∷ [] })
unfolding lines_from words_from is_digit all_digits value_from is_number number_of all_read line_numbers question_of
the_example = refl

-- the same with a line feed at its end
pub line_feed_last : question_of (limits ++ (48 ∷ 32 ∷ 49 ∷ 32 ∷ 50 ∷ 10 ∷ 48 ∷ 10 ∷ [])) ≡ Some (record { limits = six; start = 0 ∷ 1 ∷ 2 ∷ []; goal = 0 ∷ [] })
unfolding lines_from words_from is_digit all_digits value_from is_number number_of all_read line_numbers question_of
line_feed_last = refl

-- two empty key lines
pub empty_windows : question_of (limits ++ (10 ∷ 10 ∷ [])) ≡ Some (record { limits = six; start = []; goal = [] })
unfolding lines_from words_from is_digit all_digits value_from is_number number_of all_read line_numbers question_of
empty_windows = refl

-- input that stops after the second line feed has no third line
pub no_third_line : question_of (limits ++ (48 ∷ 32 ∷ 49 ∷ 32 ∷ 50 ∷ 10 ∷ [])) ≡ None
unfolding lines_from words_from is_digit all_digits value_from is_number number_of all_read line_numbers question_of
no_third_line = refl

-- what follows the third line is passed over
pub fourth_line : question_of (limits ++ (48 ∷ 10 ∷ 49 ∷ 10 ∷ 120 ∷ 32 ∷ 32 ∷ 121 ∷ [])) ≡ Some (record { limits = six; start = 0 ∷ []; goal = 1 ∷ [] })
unfolding lines_from words_from is_digit all_digits value_from is_number number_of all_read line_numbers question_of
fourth_line = refl

-- two spaces
pub two_spaces : question_of (limits ++ (48 ∷ 32 ∷ 32 ∷ 49 ∷ 10 ∷ 48 ∷ 10 ∷ [])) ≡ None
unfolding lines_from words_from is_digit all_digits value_from is_number number_of all_read line_numbers question_of
two_spaces = refl

-- a space before
pub space_before : question_of (limits ++ (48 ∷ 10 ∷ 32 ∷ 48 ∷ 10 ∷ [])) ≡ None
unfolding lines_from words_from is_digit all_digits value_from is_number number_of all_read line_numbers question_of
space_before = refl

-- a space behind
pub space_after : question_of (limits ++ (48 ∷ 10 ∷ 48 ∷ 32 ∷ 10 ∷ [])) ≡ None
unfolding lines_from words_from is_digit all_digits value_from is_number number_of all_read line_numbers question_of
space_after = refl

-- a carriage return is no digit
pub carriage_return : question_of (limits ++ (48 ∷ 13 ∷ 10 ∷ 48 ∷ 10 ∷ [])) ≡ None
unfolding lines_from words_from is_digit all_digits value_from is_number number_of all_read line_numbers question_of
carriage_return = refl

-- 65,536 is readable, and a leading zero is a digit
pub greatest : question_of (limits ++ (48 ∷ 48 ∷ 54 ∷ 53 ∷ 53 ∷ 51 ∷ 54 ∷ 10 ∷ 55 ∷ [])) ≡ Some (record { limits = six; start = 65536 ∷ []; goal = 7 ∷ [] })
unfolding lines_from words_from is_digit all_digits value_from is_number number_of all_read line_numbers question_of
greatest = refl

-- 65,537 is not
pub too_great : question_of (limits ++ (54 ∷ 53 ∷ 53 ∷ 51 ∷ 55 ∷ 10 ∷ 48 ∷ [])) ≡ None
unfolding lines_from words_from is_digit all_digits value_from is_number number_of all_read line_numbers question_of
too_great = refl

-- five limits
pub five_limits : question_of (49 ∷ 32 ∷ 50 ∷ 32 ∷ 51 ∷ 32 ∷ 52 ∷ 32 ∷ 53 ∷ 10 ∷ 10 ∷ 10 ∷ []) ≡ None
unfolding lines_from words_from is_digit all_digits value_from is_number number_of all_read line_numbers question_of
five_limits = refl

-- leading zeros change nothing
pub zeros_more : question_of (limits ++ (48 ∷ 48 ∷ 48 ∷ 54 ∷ 52 ∷ 10 ∷ 48 ∷ [])) ≡ Some (record { limits = six; start = 64 ∷ []; goal = 0 ∷ [] })
unfolding lines_from words_from is_digit all_digits value_from is_number number_of all_read line_numbers question_of
zeros_more = refl

-- a key of 256 becomes a byte that is no key
pub key_256 : key_of 256 ≡ 255
key_256 = refl

-- document 01's answer
pub the_answer : desk_text (Plan (record { found = 1; step_count = 3; plan_gas = 7; plan_bytes = 3; ceiling_gas = 7; ceiling_bytes = 3; origin = 1; ending = 1; expansions = 0; highest = 3 })) (514 ∷ 0 ∷ 0 ∷ []) ≡ 49 ∷ 32 ∷ 51 ∷ 32 ∷ 55 ∷ 32 ∷ 51 ∷ 32 ∷ 55 ∷ 32 ∷ 51 ∷ 32 ∷ 49 ∷ 32 ∷ 49 ∷ 32 ∷ 48 ∷ 32 ∷ 51 ∷ 10 ∷ 115 ∷ 119 ∷ 97 ∷ 112 ∷ 32 ∷ 50 ∷ 10 ∷ 112 ∷ 111 ∷ 112 ∷ 10 ∷ 112 ∷ 111 ∷ 112 ∷ 10 ∷ []
unfolding lead_in lead decimal line_text steps_text decoded
the_answer = refl

pub other_steps : steps_text (256 ∷ 800 ∷ 1029 ∷ []) ≡ 100 ∷ 117 ∷ 112 ∷ 32 ∷ 48 ∷ 10 ∷ 112 ∷ 117 ∷ 115 ∷ 104 ∷ 32 ∷ 51 ∷ 50 ∷ 10 ∷ 108 ∷ 111 ∷ 97 ∷ 100 ∷ 32 ∷ 53 ∷ 10 ∷ []
unfolding lead_in lead decimal line_text steps_text decoded
other_steps = refl

pub refused_six : desk_text (Refused 6) [] ≡ 114 ∷ 101 ∷ 102 ∷ 117 ∷ 115 ∷ 101 ∷ 100 ∷ 32 ∷ 54 ∷ 10 ∷ []
unfolding lead_in lead decimal line_text steps_text decoded
refused_six = refl
