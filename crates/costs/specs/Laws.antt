-- Laws of the definitions of this crate that proofs go by.
use Rattle.std.specs.Prelude.{ℕ, suc, ◌+◌, ◌*◌, ◌/◌, ◌%◌, ◌<◌, ◌≤◌, Bool, true, false, ◌||◌, List, [], ◌∷◌, ◌++◌, ◌≡◌, refl, cond, length, get_or, drop, eqb, ltb, Some}
use Rattle.std.proofs.Common.{arith, eqb-true, ne_eqb, add-one, drop-cons}
use Rattle.std.proofs.lemmas.Bool.{not-false}
use Rattle.std.specs.List.{filter}
use Rattle.std.proofs.Common.{fold, ◌∙◌}
use Rattle.costs.specs.Choice.{◌if◌otherwise◌}
use Rattle.costs.specs.Table.{any_over, count_of, kinds_fault}
use Rattle.costs.specs.declared.Cost.{Cost}
use Rattle.costs.specs.Cost.{plus}
use Rattle.costs.specs.Step.{decoded, code_of, of_kind}
use Rattle.costs.specs.declared.Step.{Step}
use Rattle.costs.specs.declared.Step.TheVariants.{Pop, Dup, Swap, PushImm, LoadVal}
use Rattle.costs.specs.Price.{price_of, cost_from}

-- a list from place i on is the number at i and the list from the next place on, whatever i + 1 is made of
pub drop_turn : (l : List ℕ) (i : ℕ) → i < length l → drop i l ≡ get_or l i 0 ∷ drop (i + 1) l
drop_turn l i h = rw (add-one, drop-cons l i 0)

pub any_over_turn : (limit : ℕ) (l : List ℕ) (i : ℕ) → i < length l → any_over limit (drop i l) ≡ (ltb limit (get_or l i 0) || any_over limit (drop (i + 1) l))
any_over_turn limit l i h = rw (drop_turn l i h)

pub count_of_turn : (k : ℕ) (l : List ℕ) (i : ℕ) → i < length l → count_of k (drop i l) ≡ (suc (count_of k (drop (i + 1) l)) if eqb (get_or l i 0) k otherwise count_of k (drop (i + 1) l))
count_of_turn k l i h = rw (drop_turn l i h)

pub or_left : (a b : Bool) → (a || b) ≡ false → a ≡ false
or_left true b h = h
or_left false b h = refl

-- a row of the refusal table that does not apply, and the rows of higher numbers
pub passed : (n : ℕ) (b : Bool) (m : ℕ) → (suc n if b otherwise m) ≡ 0 → (b ≡ false) × (m ≡ 0)
passed n true m h = absurd (omega arith)
passed n false m h = (refl, h)

pub kinds_length : (kinds : List ℕ) → kinds_fault kinds ≡ false → length kinds ≡ 64
unfolding kinds_fault
kinds_length kinds h = eqb-true _ _ (not-false _ (or_left _ _ (or_left _ _ h)))

-- a step's code stands for the step
abbrev pub OperandFits : Step → Type 0
OperandFits Pop = Unit {0}
OperandFits (Dup p) = p < 256
OperandFits (Swap d) = d < 256
OperandFits (PushImm k) = k < 256
OperandFits (LoadVal k) = k < 256

of_code : (k p : ℕ) → 0 < k → p < 256 → decoded (k * 256 + p) ≡ of_kind k p
unfolding decoded
of_code k p h f =
    let n : k * 256 + p ≡ 0 → ⊥ = omega arith in
    let d : (k * 256 + p) / 256 ≡ k = omega arith in
    let m : (k * 256 + p) % 256 ≡ p = omega arith in
    rw (ne_eqb _ _ n, d, m)

pub decoded_code : (s : Step) → OperandFits s → decoded (code_of s) ≡ Some s
unfolding decoded
decoded_code Pop f = refl
decoded_code (Dup p) f = of_code 1 p (omega arith) f
decoded_code (Swap d) f = of_code 2 d (omega arith) f
decoded_code (PushImm k) f = of_code 3 k (omega arith) f
decoded_code (LoadVal k) f = of_code 4 k (omega arith) f

-- the cost of two parts: the second adds to the first
pub cost_append : (prices : List ℕ) (sum : Cost) (xs ys : List ℕ) → cost_from prices sum (xs ++ ys) ≡ cost_from prices (cost_from prices sum xs) ys
cost_append prices sum [] ys = refl
cost_append prices sum (x ∷ xs) ys = cost_append prices (plus sum (price_of prices (decoded x))) xs ys

-- the same in the library's words: a fold over the list
pub any_over_fold : (limit : ℕ) (b : Bool) (l : List ℕ) → fold (λ over x. over || ltb limit x) b l ≡ (b || any_over limit l)
any_over_fold limit b [] = or_false b
  where
    or_false : (b : Bool) → b ≡ (b || false)
    or_false true = refl
    or_false false = refl
any_over_fold limit b (x ∷ xs) = any_over_fold limit (b || ltb limit x) xs ∙ or_assoc b (ltb limit x)
  where
    or_assoc : (b c : Bool) → ((b || c) || any_over limit xs) ≡ (b || (c || any_over limit xs))
    or_assoc true c = refl
    or_assoc false c = refl

pub count_of_filter : (k : ℕ) (l : List ℕ) → count_of k l ≡ length (filter (λ x. eqb x k) l)
count_of_filter k [] = refl
count_of_filter k (x ∷ xs) = elim (eqb x k) as (λ b. (suc (count_of k xs) if b otherwise count_of k xs) ≡ length (cond b (x ∷ filter (λ y. eqb y k) xs) (filter (λ y. eqb y k) xs))) [ true ↦ rw (count_of_filter k xs) | false ↦ count_of_filter k xs ]

-- a count on the way: n of the first i entries pass, and those behind them are still to come
abbrev pub Counted : {A : Type 0} (p : A → Bool) (l : List A) (n i : ℕ) → Type 0
Counted p l n i = (length (filter p l) ≡ n + length (filter p (drop i l))) × (n ≤ i)

pub some_injective : {A : Type 0} (a b : A) → Some a ≡ Some b → a ≡ b
some_injective a b e = cc
