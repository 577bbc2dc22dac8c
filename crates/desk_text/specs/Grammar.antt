-- The grammar of the desk's input, bytes to lines, lines to words, words to numbers: document 01, "The exam desk program", from "An empty key
-- line" on.
use Rattle.std.specs.Prelude.{ℕ, ◌+◌, ◌*◌, ◌-◌, Bool, true, ◌&&◌, List, [], ◌∷◌, ◌++◌, length, eqb, ltb, leb}
use Rattle.std.specs.Prelude.{Option, None, Some}
use Rattle.costs.specs.Choice.{◌if◌otherwise◌}

-- a line that is not empty ends at the end of the input ("A line ends")
abbrev pub last_line : List ℕ → List (List ℕ)
last_line [] = []
last_line (b ∷ bs) = (b ∷ bs) ∷ []

-- the lines of a text behind the line so far: a line ends at a line feed, byte 10, or as `last_line` says (the same sentence)
unfoldable pub lines_from : List ℕ → List ℕ → List (List ℕ)
lines_from line [] = last_line line
lines_from line (b ∷ bs) = (line ∷ lines_from [] bs) if eqb b 10 otherwise (lines_from (line ++ (b ∷ [])) bs)

-- the words of a line behind the word so far: each space, byte 32, parts two words, so that two in a row have an empty word between them
-- ("A missing line")
unfoldable pub words_from : List ℕ → List ℕ → List (List ℕ)
words_from word [] = word ∷ []
words_from word (b ∷ bs) = (word ∷ words_from [] bs) if eqb b 32 otherwise (words_from (word ++ (b ∷ [])) bs)

-- a decimal digit is a byte from `0`, 48, to `9`, 57
unfoldable pub is_digit : ℕ → Bool
is_digit b = leb 48 b && leb b 57

-- all bytes of a word are decimal digits
unfoldable pub all_digits : List ℕ → Bool
all_digits [] = true
all_digits (b ∷ bs) = is_digit b && all_digits bs

-- the value of digits behind a value so far, the first digit the highest; leading zeros are digits
unfoldable pub value_from : ℕ → List ℕ → ℕ
value_from v [] = v
value_from v (b ∷ bs) = value_from (v * 10 + (b - 48)) bs

-- digits only, of a value below 65,537
unfoldable pub is_number : List ℕ → Bool
is_number word = all_digits word && ltb (value_from 0 word) 65537

-- the number that a word is, if it is not empty
unfoldable pub number_of : List ℕ → Option ℕ
number_of [] = None
number_of (b ∷ bs) = Some (value_from 0 (b ∷ bs)) if is_number (b ∷ bs) otherwise None

-- a number in front of numbers, if both are there
abbrev pub before : Option ℕ → Option (List ℕ) → Option (List ℕ)
before None ns = None
before (Some n) None = None
before (Some n) (Some ns) = Some (n ∷ ns)

-- the numbers that the words are, if each is one
unfoldable pub all_read : List (List ℕ) → Option (List ℕ)
all_read [] = Some []
all_read (w ∷ ws) = before (number_of w) (all_read ws)

-- numbers, if they are at most 64
abbrev pub few : Option (List ℕ) → Option (List ℕ)
few None = None
few (Some ns) = Some ns if leb (length ns) 64 otherwise None

-- the numbers of a line, if it is readable; an empty line has none ("An empty key line")
unfoldable pub line_numbers : List ℕ → Option (List ℕ)
line_numbers [] = Some []
line_numbers (b ∷ bs) = few (all_read (words_from [] (b ∷ bs)))
