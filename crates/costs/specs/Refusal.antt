-- Why a call refuses its input, and document 01's numbers for it.
use Rattle.std.specs.Prelude.{ℕ, ◌≡◌, Result, Ok, Err}
use Rattle.std.proofs.Common.{arith}
use Rattle.costs.specs.declared.Refusal.{Refusal}
use Rattle.costs.specs.declared.Refusal.TheVariants.{Reach, Window, Allowance, Table, Key, Length, ShortList, Step, Swaps, Tail, Start, Stack}

-- the number of a refusal
abbrev pub number_of : Refusal → ℕ
number_of Reach = 1
number_of Window = 2
number_of Allowance = 3
number_of Table = 4
number_of Key = 5
number_of Length = 6
number_of ShortList = 7
number_of (Step i) = 8
number_of Swaps = 9
number_of Tail = 10
number_of Start = 11
number_of Stack = 12

-- the index beside the number: that of a step that is not allowed, else 0
abbrev pub place_of : Refusal → ℕ
place_of Reach = 0
place_of Window = 0
place_of Allowance = 0
place_of Table = 0
place_of Key = 0
place_of Length = 0
place_of ShortList = 0
place_of (Step i) = i
place_of Swaps = 0
place_of Tail = 0
place_of Start = 0
place_of Stack = 0

-- the number of a refusal, or 0 where there is none
abbrev pub refusal_of : {A : Type 0} → Result A Refusal → ℕ
refusal_of (Ok a) = 0
refusal_of (Err r) = number_of r

-- no refusal has the number 0
pub never_zero : (r : Refusal) → number_of r ≡ 0 → ⊥
never_zero Reach e = omega arith
never_zero Window e = omega arith
never_zero Allowance e = omega arith
never_zero Table e = omega arith
never_zero Key e = omega arith
never_zero Length e = omega arith
never_zero ShortList e = omega arith
never_zero (Step i) e = omega arith
never_zero Swaps e = omega arith
never_zero Tail e = omega arith
never_zero Start e = omega arith
never_zero Stack e = omega arith
