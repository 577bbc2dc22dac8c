-- What the desk promises where the bytes of its input and of its output are known. Of the system's streams nothing is known (`None`).
use Rattle.std.specs.Prelude.{ℕ, ◌≡◌, ◌⊎◌, List, ◌++◌, ⊤, Result, Ok, Err, IfSome, take}
use Rattle.std.specs.declared.option.Option.{Option}
use Rattle.std.specs.declared.io.ErrorKind.{ErrorKind}
use Rattle.std.specs.declared.io.ErrorKind.TheVariants.{Interrupted, WouldBlock}
use Rattle.std.specs.Io.KnownBytes.{Appends, Consumes, Keeps}
use Rattle.desk_text.specs.Noted.{Noted}
use Rattle.desk_text.specs.Question.{question_of}
use Rattle.desk_text.specs.Reader.{Heard}
use Rattle.desk_text.specs.Pieces.{FedPieces}
use Rattle.desk_text.specs.Machine.{fed_all}
use Rattle.desk_text.specs.Text.{printed}
use Rattle.desk_answer.specs.Desk.{desk_answer}
use Rattle.desk.specs.declared.Fault.{Fault}
use Rattle.desk.specs.declared.Fault.TheVariants.{Unread, Unwritten}

-- a call that failed is to be tried again
abbrev pub Passing : ErrorKind → Type 0
Passing kind = (kind ≡ Interrupted) ⊎ (kind ≡ WouldBlock)

-- a reader follows from another by a text that was fed, and the text is what was taken of the input
pub record Listened (s r : Noted) (before after : Option (List ℕ)) : Type 0 where
  pub text : List ℕ
  pub fed : r ≡ fed_all s text
  pub taken : Consumes before after text

-- behind a read that failed: the list is that of a reader that was fed with the pieces in front of the failure and with nothing else, and
-- they are what was taken of the input
pub record Stopped (s : Noted) (numbers : List ℕ) (before after : Option (List ℕ)) : Type 0 where
  pub last : Noted
  pub list : numbers ≡ last.list
  pub fed : FedPieces s last
  pub taken : Listened s last before after

-- what is to be written is the desk's answer to the text heard before, with the whole input behind it
abbrev pub RepliedTo : Noted → Option (List ℕ) → ℕ → List ℕ → List ℕ → Type 0
RepliedTo s input count old out =
    IfSome input (λ xs. (text : List ℕ) → Heard text s → (count, out) ≡ printed (desk_answer (question_of (text ++ xs))) old)

-- the output after a run: longer by the desk's answer to the input; as it was, if the input could not be read; longer by the first
-- bytes of the answer, if it could not all be written
abbrev pub Served : Result ⊤ Fault → Option (List ℕ) → Option (List ℕ) → Option (List ℕ) → Type 0
Served (Ok done) input old new = IfSome input (λ xs. Appends old new (desk_answer (question_of xs)))
Served (Err (Unread e)) input old new = Keeps old new
Served (Err (Unwritten e)) input old new = IfSome input (λ xs. (k : ℕ) × Appends old new (take k (desk_answer (question_of xs))))
