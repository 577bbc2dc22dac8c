-- What the desk promises of its reading: what the answer is of.
use Rattle.std.specs.Prelude.{ℕ, ◌≤◌, Bool, true, List, ◌++◌, ◌≡◌, length}
use Rattle.desk_text.specs.Noted.{Noted}
use Rattle.desk_text.specs.Question.{question_of}
use Rattle.desk_text.specs.Reader.{Heard}
use Rattle.desk_text.specs.Pieces.{joined, FedPieces, pieces_heard}
use Rattle.desk_text.specs.Text.{printed}
use Rattle.desk_answer.specs.Desk.{desk_answer, Responded}

-- the answer, if the input is whole: what is to be written is the desk's answer to the text heard before, with the pieces that were read behind it in a row
pub record Replied (s : Noted) (whole : Bool) (count : ℕ) (old out : List ℕ) : Type 0 where
  pub fits : count ≤ length out
  pub pieces : List (List ℕ)
  pub says : whole ≡ true → (text : List ℕ) → Heard text s → (count, out) ≡ printed (desk_answer (question_of (text ++ joined pieces))) old

-- the laws of the code
pub replied_whole : (s r : Noted) (old out : List ℕ) (count : ℕ) → FedPieces s r → Responded r old count out → Replied s true count old out
replied_whole s r old out count w g =
    record { fits = g.fits; pieces = w.pieces; says = λ t text h. g.says (text ++ joined w.pieces) (pieces_heard text s r h w) }
