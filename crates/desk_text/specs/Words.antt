-- Laws of the grammar: one byte more on a word, what is no number stays none, numbers in front of numbers.
use Rattle.std.specs.Prelude.{ℕ, ◌+◌, ◌*◌, ◌-◌, ◌<◌, ◌≤◌, Bool, ◌&&◌, ◌≡◌, refl, length, eqb, ltb, leb}
use Rattle.std.proofs.Math.Bool.{true, false}
use Rattle.std.proofs.lemmas.Bool.{false≢true}
use mathlib.Core.List.{List, [], ◌∷◌, ◌++◌, append_assoc}
use Rattle.std.specs.Prelude.{Option, None, Some}
use Rattle.std.proofs.Math.Path.{ap}
use Rattle.std.proofs.Common.{sym, ◌∙◌, arith, length-append}
use borrow.Author.Tests.{lt-ltb, le-ltb, lt-leb, le-leb, ltb-false}
use Rattle.desk_text.specs.Grammar.{words_from, is_digit, all_digits, value_from, is_number, number_of, before, all_read, few, line_numbers}

digits_more : (w : List ℕ) (b : ℕ) → all_digits (w ++ (b ∷ [])) ≡ (all_digits w && is_digit b)
unfolding all_digits
digits_more [] b = and_true (is_digit b)
  where
    and_true : (t : Bool) → (t && true) ≡ t
    and_true true = refl
    and_true false = refl
digits_more (x ∷ w) b = rw (digits_more w b) (sym (and_assoc (is_digit x) (all_digits w) (is_digit b)))
  where
    and_assoc : (x y z : Bool) → ((x && y) && z) ≡ (x && (y && z))
    and_assoc true y z = refl
    and_assoc false y z = refl

value_more : (v : ℕ) (w : List ℕ) (b : ℕ) → value_from v (w ++ (b ∷ [])) ≡ value_from v w * 10 + (b - 48)
unfolding value_from
value_more v [] b = refl
value_more v (x ∷ w) b = value_more (v * 10 + (x - 48)) w b

and_off : (x : Bool) → (x && false) ≡ false
and_off true = refl
and_off false = refl

number_bad : (w : List ℕ) → is_number w ≡ false → number_of w ≡ None
unfolding number_of
number_bad [] h = refl
number_bad (b ∷ bs) h = rw h

large_bad : (w : List ℕ) → 65536 < value_from 0 w → is_number w ≡ false
unfolding is_number
large_bad w h = rw (le-ltb (value_from 0 w) 65537 (omega arith)) (and_off (all_digits w))

bad_more : (w : List ℕ) (b : ℕ) → is_number w ≡ false → is_number (w ++ (b ∷ [])) ≡ false
unfolding is_number
bad_more w b h = go (all_digits w) refl
  where
    go : (t : Bool) → all_digits w ≡ t → is_number (w ++ (b ∷ [])) ≡ false
    go false e = rw (digits_more w b, e)
    go true e =
        let k : ltb (value_from 0 w) 65537 ≡ false = rw e at h in
        let m : 65537 ≤ value_from 0 w = ltb-false _ _ k in
        large_bad (w ++ (b ∷ [])) (rw (value_more 0 w b) (omega arith))

-- bytes behind what is no number make no number
bad_all : (w bs : List ℕ) → is_number w ≡ false → all_read (words_from w bs) ≡ None
unfolding words_from all_read
bad_all w [] h = rw (number_bad w h)
bad_all w (b ∷ bs) h = go (bad_all (w ++ (b ∷ [])) bs (bad_more w b h)) (eqb b 32) refl
  where
    go : all_read (words_from (w ++ (b ∷ [])) bs) ≡ None → (t : Bool) → eqb b 32 ≡ t → all_read (words_from w (b ∷ bs)) ≡ None
    go f true e = rw (e, number_bad w h)
    go f false e = rw e f

-- whether a list has an element
abbrev pub full : List ℕ → Bool
full [] = false
full (b ∷ bs) = true

pub full_more : (w : List ℕ) (b : ℕ) → full (w ++ (b ∷ [])) ≡ true
full_more [] b = refl
full_more (x ∷ w) b = refl

pub full_on : (w bs : List ℕ) → full w ≡ true → full (w ++ bs) ≡ true
full_on [] bs h = absurd (false≢true h)
full_on (x ∷ w) bs h = refl

pub full_not : (w : List ℕ) → full w ≡ false → w ≡ []
full_not [] h = refl
full_not (x ∷ w) h = absurd (false≢true (sym h))

-- a word so far: digits of this value, below 65,537
pub record Word (w : List ℕ) (value : ℕ) : Type 0 where
  pub digits : all_digits w ≡ true
  pub worth : value_from 0 w ≡ value
  pub small : value < 65537

pub word_empty : Word [] 0
unfolding all_digits value_from
word_empty = record { digits = refl; worth = refl; small = omega arith }

module _ (w : List ℕ) (value : ℕ) (s : Word w value) where
  word_good : (u : List ℕ) → u ≡ w → full u ≡ true → number_of u ≡ Some value
  unfolding number_of is_number
  word_good [] e f = absurd (false≢true f)
  word_good (b ∷ bs) e f =
      let d : all_digits (b ∷ bs) ≡ true = ap all_digits e ∙ s.digits in
      let v : value_from 0 (b ∷ bs) ≡ value = ap (value_from 0) e ∙ s.worth in
      rw (d, v, lt-ltb _ _ s.small)

  pub word_number : full w ≡ true → number_of w ≡ Some value
  word_number = word_good w refl

  pub word_strange : (b : ℕ) (bs : List ℕ) → is_digit b ≡ false → all_read (words_from (w ++ (b ∷ [])) bs) ≡ None
  unfolding is_number
  word_strange b bs h =
      let n : is_number (w ++ (b ∷ [])) ≡ false = rw (digits_more w b, s.digits, h) in
      bad_all (w ++ (b ∷ [])) bs n

  pub word_large : (b : ℕ) (bs : List ℕ) → 65536 < value * 10 + (b - 48) → all_read (words_from (w ++ (b ∷ [])) bs) ≡ None
  word_large b bs h =
      let k : value_from 0 (w ++ (b ∷ [])) ≡ value * 10 + (b - 48) = rw (value_more 0 w b, s.worth) in
      bad_all (w ++ (b ∷ [])) bs (large_bad _ (omega arith))

  pub word_more : (b : ℕ) → is_digit b ≡ true → value * 10 + (b - 48) ≤ 65536 → Word (w ++ (b ∷ [])) (value * 10 + (b - 48))
  word_more b h k =
      record { digits = rw (digits_more w b, s.digits, h); worth = rw (value_more 0 w b, s.worth); small = omega arith }

-- numbers in front of numbers that were read
abbrev pub join : List ℕ → Option (List ℕ) → Option (List ℕ)
join ns None = None
join ns (Some ms) = Some (ns ++ ms)

pub join_none : (o : Option (List ℕ)) → o ≡ join [] o
join_none None = refl
join_none (Some ms) = refl

pub join_one : (ns : List ℕ) (v : ℕ) (o : Option (List ℕ)) → join ns (before (Some v) o) ≡ join (ns ++ (v ∷ [])) o
join_one ns v None = refl
join_one ns v (Some ms) = ap Some (sym (append_assoc ns (v ∷ []) ms))

pub line_words : (line : List ℕ) → full line ≡ true → line_numbers line ≡ few (all_read (words_from [] line))
unfolding line_numbers
line_words [] h = absurd (false≢true h)
line_words (b ∷ bs) h = refl

pub line_empty : (line : List ℕ) → full line ≡ false → line_numbers line ≡ Some []
unfolding line_numbers
line_empty line h = rw (full_not line h)

-- 64 numbers and one more are too many
pub many : (ns : List ℕ) (v : ℕ) (o : Option (List ℕ)) → length ns ≡ 64 → few (join ns (before (Some v) o)) ≡ None
many ns v None h = refl
many ns v (Some ms) h =
    let k : leb (length (ns ++ (v ∷ ms))) 64 ≡ false = lt-leb (length (ns ++ (v ∷ ms))) 64 (simp length-append (omega arith)) in
    rw k

pub few_enough : (ns : List ℕ) → length ns ≤ 64 → few (Some ns) ≡ Some ns
few_enough ns h = rw (le-leb (length ns) 64 h)
