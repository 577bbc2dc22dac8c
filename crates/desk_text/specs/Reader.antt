-- What the reader's contracts say: the text heard, the bounds that it keeps, a piece more, the end of the input.
use Rattle.std.specs.Prelude.{ℕ, ◌<◌, ◌≤◌, Bool, true, List, ◌++◌, ◌≡◌, refl, length, Option}
use Rattle.std.proofs.Common.{arith}
use Rattle.desk_text.specs.declared.read.Reader.{Reader}
use Rattle.desk_text.specs.Noted.{Noted, noted}
use Rattle.desk_text.specs.declared.read.Question.{Question}
use Rattle.desk_text.specs.Question.{question_of, read_as}
use Rattle.desk_text.specs.Machine.{no_numbers, fresh, fed_all}

-- a reader is what a text leaves of a new one
abbrev pub Heard : List ℕ → Noted → Type 0
Heard text s = s ≡ fed_all fresh text

-- the bounds that a reader keeps
pub record Sound (s : Noted) : Type 0 where
  pub small : s.value < 65537
  pub within : s.count ≤ 64
  pub starts : s.starts ≤ 64
  pub places : length s.list ≡ 192

-- a reader with a piece more: its bytes, each once, in their order
pub record Fed (piece : List ℕ) (s r : Noted) : Type 0 where
  pub sound : Sound r
  pub fed : r ≡ fed_all s piece

-- the bytes in front of the rest change nothing
pub record Idle (bytes : List ℕ) (s : Reader) (rest : List ℕ) : Type 0 where
  pub short : length rest ≤ length bytes
  pub same : (list : List ℕ) → fed_all (noted s list) bytes ≡ fed_all (noted s list) rest

-- where a reader is settled, whatever follows the text heard is passed over
abbrev pub Settled : Reader → Bool → Type 0
Settled s r = r ≡ true → (list text more : List ℕ) → Heard text (noted s list) → question_of (text ++ more) ≡ question_of text

-- the end of the input: the answer is that of the text heard
abbrev pub Finished : Noted → Option Question → Type 0
Finished s r = (text : List ℕ) → Heard text s → r ≡ read_as (question_of text)

pub fresh_sound : Sound fresh
unfolding fresh no_numbers
fresh_sound = record { small = omega arith; within = omega arith; starts = omega arith; places = refl }
