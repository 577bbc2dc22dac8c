-- What follows the third line is passed over, and a key line that is read has at most 64 keys.
use Rattle.std.specs.Prelude.{ℕ, zero, suc, ◌≤◌, Bool, true, false, List, [], ◌∷◌, ◌++◌, ◌≡◌, refl, eqb, leb, length, take}
use Rattle.std.specs.Prelude.{Option, None, Some}
use Rattle.std.proofs.Common.{ap, sym, ◌∙◌, arith, leb-true}
use Rattle.costs.specs.Choice.{◌if◌otherwise◌}
use Rattle.costs.specs.Table.{count_of}
use Rattle.desk_text.specs.Grammar.{lines_from, line_numbers, few, all_read, words_from}
use Rattle.desk_text.specs.Question.{Asked, six, first_three, all_of, of_three, question_of}

-- as many lines as line feeds are the same whatever follows
lines_passed : (k : ℕ) (bs : List ℕ) (line more : List ℕ) → k ≤ count_of 10 bs → take k (lines_from line (bs ++ more)) ≡ take k (lines_from line bs)
unfolding lines_from
lines_passed zero bs line more h = refl
lines_passed (suc k) [] line more h = absurd (omega arith)
lines_passed (suc k) (b ∷ bs) line more h = go (lines_passed k bs [] more) (lines_passed (suc k) bs (line ++ (b ∷ [])) more) (eqb b 10) refl
  where
    go : (k ≤ count_of 10 bs → take k (lines_from [] (bs ++ more)) ≡ take k (lines_from [] bs)) →
        (suc k ≤ count_of 10 bs → take (suc k) (lines_from (line ++ (b ∷ [])) (bs ++ more)) ≡ take (suc k) (lines_from (line ++ (b ∷ [])) bs)) →
        (t : Bool) → eqb b 10 ≡ t → take (suc k) (lines_from line (b ∷ (bs ++ more))) ≡ take (suc k) (lines_from line (b ∷ bs))
    go f g true e =
        let n : suc k ≤ suc (count_of 10 bs) = rw e at h in
        rw e (ap (λ (l : List (List ℕ)). line ∷ l) (f (omega arith)))
    go f g false e =
        let n : suc k ≤ count_of 10 bs = rw e at h in
        rw e (g n)

three_only : (ls : List (List ℕ)) → first_three ls ≡ first_three (take 3 ls)
three_only [] = refl
three_only (a ∷ []) = refl
three_only (a ∷ b ∷ []) = refl
three_only (a ∷ b ∷ c ∷ more) = refl

-- once three lines have ended, what follows is passed over
pub passed_over : (text more : List ℕ) → 3 ≤ count_of 10 text → question_of (text ++ more) ≡ question_of text
unfolding question_of
passed_over text more n =
    ap of_three (three_only (lines_from [] (text ++ more)) ∙ ap first_three (lines_passed 3 text [] more n) ∙ sym (three_only (lines_from [] text)))

-- numbers that were read of a line are at most 64
few_most : (o : Option (List ℕ)) (ns : List ℕ) → few o ≡ Some ns → length ns ≤ 64
few_most None ns e = cc
few_most (Some ms) ns e = go (leb (length ms) 64) refl e
  where
    go : (t : Bool) → leb (length ms) 64 ≡ t → (Some ms if t otherwise None) ≡ Some ns → length ns ≤ 64
    go true k f = let q : ms ≡ ns = cc in rw (sym q) (leb-true _ _ k)
    go false k f = cc

line_most : (line ns : List ℕ) → line_numbers line ≡ Some ns → length ns ≤ 64
unfolding line_numbers
line_most [] ns e = let q : ns ≡ [] = cc in rw q (omega arith)
line_most (b ∷ bs) ns e = few_most (all_read (words_from [] (b ∷ bs))) ns e

all_most : (l s g : Option (List ℕ)) (q : Asked) → all_of l s g ≡ Some q → (s ≡ Some q.start) × (g ≡ Some q.goal)
all_most None s g q e = cc
all_most (Some l) None g q e = cc
all_most (Some l) (Some s) None q e = cc
all_most (Some l) (Some s) (Some g) q e = let f : record { limits = l; start = s; goal = g } ≡ q = cc in (rw (sym f), rw (sym f))

-- a question's keys are at most 64 each
pub keys_most : (text : List ℕ) (q : Asked) → question_of text ≡ Some q → (length q.start ≤ 64) × (length q.goal ≤ 64)
unfolding question_of
keys_most text q e = go (first_three (lines_from [] text)) e
  where
    go : (o : Option (List ℕ × List ℕ × List ℕ)) → of_three o ≡ Some q → (length q.start ≤ 64) × (length q.goal ≤ 64)
    go None f = cc
    go (Some (a, b, c)) f =
        let m = all_most (six (line_numbers a)) (line_numbers b) (line_numbers c) q f in
        (line_most b q.start m.0, line_most c q.goal m.1)
