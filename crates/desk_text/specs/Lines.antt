-- The question line by line, and lines that are unreadable whatever follows.
use Rattle.std.specs.Prelude.{ℕ, zero, suc, Bool, true, false, List, [], ◌∷◌, ◌++◌, ◌≡◌, refl, eqb}
use Rattle.std.proofs.lemmas.Bool.{false≢true}
use Rattle.std.proofs.Common.{append_assoc, append-nil, ap, sym, ◌∙◌}
use Rattle.std.specs.Prelude.{Option, None, Some}
use Rattle.desk_text.specs.Grammar.{last_line, lines_from, line_numbers}
use Rattle.desk_text.specs.Question.{Asked, six, first_three, all_of, of_three}
use Rattle.desk_text.specs.Words.{full, full_more}

-- the question line by line: what the lines from the third, the second and the first on make of it
abbrev pub and_then : Option (List ℕ) → (List ℕ → Option Asked) → Option Asked
and_then None f = None
and_then (Some ns) f = f ns

abbrev pub from_third : List ℕ → List ℕ → List (List ℕ) → Option Asked
from_third l s [] = None
from_third l s (c ∷ ls) = and_then (line_numbers c) (λ g. Some (record { limits = l; start = s; goal = g }))

abbrev pub from_second : List ℕ → List (List ℕ) → Option Asked
from_second l [] = None
from_second l (b ∷ ls) = and_then (line_numbers b) (λ s. from_third l s ls)

abbrev pub from_first : List (List ℕ) → Option Asked
from_first [] = None
from_first (a ∷ ls) = and_then (six (line_numbers a)) (λ l. from_second l ls)

abbrev pub from_line : ℕ → List ℕ → List ℕ → List (List ℕ) → Option Asked
from_line zero l s ls = from_first ls
from_line (suc zero) l s ls = from_second l ls
from_line (suc (suc k)) l s ls = from_third l s ls

none_then : (o : Option (List ℕ)) → None ≡ and_then o (λ l. None)
none_then None = refl
none_then (Some l) = refl

pub line_by_line : (ls : List (List ℕ)) → of_three (first_three ls) ≡ from_first ls
line_by_line [] = refl
line_by_line (a ∷ []) = none_then (six (line_numbers a))
line_by_line (a ∷ b ∷ []) = go (six (line_numbers a)) (line_numbers b)
  where
    go : (x y : Option (List ℕ)) → None ≡ and_then x (λ l. and_then y (λ s. None))
    go None y = refl
    go (Some l) None = refl
    go (Some l) (Some s) = refl
line_by_line (a ∷ b ∷ c ∷ more) = go (six (line_numbers a)) (line_numbers b) (line_numbers c)
  where
    go : (x y z : Option (List ℕ)) → all_of x y z ≡ and_then x (λ l. and_then y (λ s. and_then z (λ g. Some (record { limits = l; start = s; goal = g }))))
    go None y z = refl
    go (Some l) None z = refl
    go (Some l) (Some s) None = refl
    go (Some l) (Some s) (Some g) = refl

pub lines_none : (k : ℕ) (l s : List ℕ) → from_line k l s [] ≡ None
lines_none zero l s = refl
lines_none (suc zero) l s = refl
lines_none (suc (suc k)) l s = refl

pub line_bad : (k : ℕ) (l s line : List ℕ) (ls : List (List ℕ)) → line_numbers line ≡ None → from_line k l s (line ∷ ls) ≡ None
line_bad zero l s line ls h = rw h
line_bad (suc zero) l s line ls h = rw h
line_bad (suc (suc k)) l s line ls h = rw h

pub last_full : (line : List ℕ) → full line ≡ true → last_line line ≡ line ∷ []
last_full [] h = absurd (false≢true h)
last_full (b ∷ bs) h = refl

-- where a line and whatever is behind it is unreadable, so are the lines from it on
pub lines_bad : (f : List (List ℕ) → Option Asked) (bs line : List ℕ) → full line ≡ true →
    ((more : List ℕ) (ls : List (List ℕ)) → f ((line ++ more) ∷ ls) ≡ None) → f (lines_from line bs) ≡ None
unfolding lines_from
lines_bad f [] line h g = ap f (last_full line h) ∙ ap (λ (a : List ℕ). f (a ∷ [])) (sym (append-nil line)) ∙ g [] []
lines_bad f (b ∷ bs) line h g = go (lines_bad f bs (line ++ (b ∷ [])) (full_more line b)) (eqb b 10) refl
  where
    on : (more : List ℕ) (ls : List (List ℕ)) → f (((line ++ (b ∷ [])) ++ more) ∷ ls) ≡ None
    on more ls = ap (λ (a : List ℕ). f (a ∷ ls)) (append_assoc line (b ∷ []) more) ∙ g (b ∷ more) ls

    go : (((more : List ℕ) (ls : List (List ℕ)) → f (((line ++ (b ∷ [])) ++ more) ∷ ls) ≡ None) → f (lines_from (line ++ (b ∷ [])) bs) ≡ None) →
        (t : Bool) → eqb b 10 ≡ t → f (lines_from line (b ∷ bs)) ≡ None
    go i true e = rw e (ap (λ (a : List ℕ). f (a ∷ lines_from [] bs)) (sym (append-nil line)) ∙ g [] (lines_from [] bs))
    go i false e = rw e (i on)
