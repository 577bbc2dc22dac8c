-- The laws of a reader that is fed: its bounds, a new reader, a settled one.
use Rattle.std.specs.Prelude.{ℕ, ◌<◌, List, [], ◌++◌, ◌≡◌, refl, length, Option, Some, None, unwrap_or}
use Rattle.std.specs.Option.{ForSome}
use Rattle.std.proofs.Common.{ap, sym, ◌∙◌, arith}
use Rattle.desk_text.specs.declared.read.Reader.{Reader}
use Rattle.desk_text.specs.Noted.{Noted, noted}
use Rattle.desk_text.specs.Question.{question_of}
use Rattle.desk_text.specs.Machine.{no_numbers, fresh, fed_all}
use Rattle.desk_text.specs.Reader.{Heard, Sound}
use Rattle.desk_text.specs.Meaning.{heard, heard_question, fed_append, past_all}

-- a reader keeps its bounds
pub sound_is : (s : Reader) (list : List ℕ) → length list ≡ 192 → Sound (noted s list)
sound_is s list h = record { small = go s.word s.small; within = s.within; starts = s.starts_within; places = h }
  where
    go : (o : Option ℕ) → ForSome o (λ v. v < 65537) → unwrap_or o 0 < 65537
    go None f = omega arith
    go (Some v) f = f v refl

-- a new reader with a list that holds no numbers
module _ (s : Reader) (list : List ℕ) (e : noted s no_numbers ≡ fresh) (h : list ≡ no_numbers) where
  pub new_is : noted s list ≡ fresh
  new_is = ap (noted s) h ∙ e

  pub new_heard : Heard [] (noted s list)
  unfolding fed_all
  new_heard = new_is

-- once the third line has ended, or the reader is lost, what follows is passed over
pub passed : (s : Noted) → 2 < s.line → (text more : List ℕ) → Heard text s → question_of (text ++ more) ≡ question_of text
passed s p text more e =
    let q : fed_all fresh (text ++ more) ≡ s = fed_append text more fresh ∙ ap (λ (r : Noted). fed_all r more) (sym e) ∙ past_all more s p in
    sym (heard_question (text ++ more)) ∙ ap heard (q ∙ e) ∙ heard_question text
