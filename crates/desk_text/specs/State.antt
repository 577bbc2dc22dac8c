-- What the reader has noted: where it stands, and the numbers.
use Rattle.std.specs.Prelude.{ℕ, Bool, List}

-- a reader with its numbers; the word's digits and their value, 0 where it has none, are the struct's word
pub record Noted : Type 0 where
  pub line : ℕ
  pub begun : Bool
  pub digits : Bool
  pub value : ℕ
  pub count : ℕ
  pub starts : ℕ
  pub list : List ℕ
