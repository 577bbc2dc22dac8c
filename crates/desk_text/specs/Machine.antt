-- The reader byte by byte: what it holds after a text. `Meaning.antt` proves that its answer is the grammar's question.
use Rattle.std.specs.Prelude.{ℕ, ◌+◌, ◌*◌, ◌-◌, true, false, List, [], ◌∷◌, eqb, ltb, take, drop, set, replicate}
use Rattle.std.specs.Prelude.{Option, None, Some}
use Rattle.costs.specs.Choice.{◌if◌otherwise◌}
use Rattle.desk_text.specs.State.{Noted}
use Rattle.desk_text.specs.Grammar.{is_digit}
use Rattle.desk_text.specs.Question.{Asked}

-- the list of numbers before the first is noted: 64 places to a line
unfoldable pub no_numbers : List ℕ
no_numbers = replicate 192 0

-- nothing is read yet
unfoldable pub fresh : Noted
fresh = record { line = 0; begun = false; digits = false; value = 0; count = 0; starts = 0; list = no_numbers }

-- the input is unreadable whatever follows
unfoldable pub lost : Noted → Noted
lost s = record { line = 4; begun = s.begun; digits = s.digits; value = s.value; count = s.count; starts = s.starts; list = s.list }

-- the word's value among the line's numbers
unfoldable pub kept : Noted → Noted
kept s =
    record {
      line = s.line;
      begun = true;
      digits = false;
      value = 0;
      count = s.count + 1;
      starts = s.starts;
      list = set s.list (64 * s.line + s.count) s.value;
    }

-- the word ends: it has a digit, and the line has at most 64 numbers
unfoldable pub word_ended : Noted → Noted
word_ended s = (lost s if eqb s.count 64 otherwise kept s) if s.digits otherwise lost s

-- the first line ends
unfoldable pub first_closed : Noted → Noted
first_closed s = record { line = 1; begun = false; digits = s.digits; value = s.value; count = 0; starts = s.starts; list = s.list }

-- the second line ends
unfoldable pub second_closed : Noted → Noted
second_closed s = record { line = 2; begun = false; digits = s.digits; value = s.value; count = 0; starts = s.count; list = s.list }

-- the third line ends
unfoldable pub third_closed : Noted → Noted
third_closed s = record { line = 3; begun = false; digits = s.digits; value = s.value; count = s.count; starts = s.starts; list = s.list }

-- the line ends, its last word having ended; the first has six numbers
unfoldable pub line_closed : Noted → Noted
line_closed s =
    (first_closed s if eqb s.count 6 otherwise lost s) if eqb s.line 0 otherwise
    second_closed s if eqb s.line 1 otherwise
    third_closed s if eqb s.line 2 otherwise
    s

-- a line feed: a line that is not empty ends with a word
unfoldable pub line_fed : Noted → Noted
line_fed s = line_closed (word_ended s) if s.begun otherwise line_closed s

-- a digit more
unfoldable pub digit_kept : Noted → ℕ → Noted
digit_kept s v = record { line = s.line; begun = true; digits = true; value = v; count = s.count; starts = s.starts; list = s.list }

-- a byte that is neither a line feed nor a space: a digit, and a value below 65,537
unfoldable pub digit_fed : ℕ → Noted → Noted
digit_fed b s =
    (lost s if ltb 65536 (s.value * 10 + (b - 48)) otherwise digit_kept s (s.value * 10 + (b - 48))) if is_digit b otherwise
    lost s

-- one byte more; what follows the third line is passed over
unfoldable pub fed_byte : Noted → ℕ → Noted
fed_byte s b =
    s if ltb 2 s.line otherwise
    line_fed s if eqb b 10 otherwise
    word_ended s if eqb b 32 otherwise
    digit_fed b s

-- bytes more
unfoldable pub fed_all : Noted → List ℕ → Noted
fed_all s [] = s
fed_all s (b ∷ bs) = fed_all (fed_byte s b) bs

-- the end of the input ends a line that is not empty
unfoldable pub at_end : Noted → Noted
at_end s = fed_byte s 10 if s.begun otherwise s

-- the question that the numbers make once three lines have ended
unfoldable pub outcome : Noted → Option Asked
outcome s =
    Some (record { limits = take 6 s.list; start = take s.starts (drop 64 s.list); goal = take s.count (drop 128 s.list) }) if eqb s.line 3 otherwise
    None
