-- What the reader has noted: where it stands, which its functions hand on, and the numbers, which stand in a lent list.
use Rattle.std.specs.Prelude.{ℕ, List, ◌≡◌, is_some, unwrap_or}
use Rattle.desk_text.specs.declared.read.Line.{Line}
use Rattle.desk_text.specs.declared.read.Line.TheVariants.{First, Second, Third, Done, Lost}
use Rattle.desk_text.specs.declared.read.Reader.{Reader}
pub use Rattle.desk_text.specs.State.{Noted}

-- the line that is read, from 0 on; 3 once three lines have ended, 4 if the input is unreadable whatever follows
abbrev pub line_of : Line → ℕ
line_of First = 0
line_of Second = 1
line_of Third = 2
line_of Done = 3
line_of Lost = 4

-- a reader and the list that it is lent
abbrev pub noted : Reader → List ℕ → Noted
noted s list =
    record {
      line = line_of s.line;
      begun = s.begun;
      digits = is_some s.word;
      value = unwrap_or s.word 0;
      count = s.count;
      starts = s.starts;
      list = list;
    }

-- a reader follows from another by a step that leaves the numbers as they are
pub record Leaves (step : Noted → Noted) (s r : Reader) : Type 0 where
  pub all : (list : List ℕ) → noted r list ≡ step (noted s list)
