-- What stepping back gives from the lists that a replay left.
use Rattle.std.specs.Prelude.{ℕ, zero, suc, ◌<◌, ◌≤◌, Bool, true, false, List, ◌≡◌, refl, ltb, length}
use Rattle.std.proofs.Common.{arith, lt-ltb, ltb-true, ltb-false}
use Rattle.costs.specs.Choice.{◌if◌otherwise◌}
use Rattle.rewind.specs.Rewind.{refused, given}
use Rattle.rewind.specs.declared.Rewound.{Rewound}

-- the start again; 7 where there are not 21 places for it; the replay's number where it has one (request U2)
abbrev pub taken_back : (number : ℕ) (start old : List ℕ) → Rewound × List ℕ
taken_back number start old =
    refused number old if ltb 0 number otherwise
    refused 7 old if ltb (length old) 21 otherwise
    given start old

-- a replay that was refused, and one that was not
pub taken_refused : (number : ℕ) (start old : List ℕ) → (number ≡ 0 → ⊥) → refused number old ≡ taken_back number start old
taken_refused zero start old h = absurd (h refl)
taken_refused (suc n) start old h = rw (lt-ltb 0 (suc n) (omega arith))

pub taken_given : (number : ℕ) (start old : List ℕ) (back : Rewound × List ℕ) → number ≡ 0 → (21 ≤ length old → back ≡ given start old) → (length old < 21 → back ≡ refused 7 old) → back ≡ taken_back number start old
taken_given number start old back z room short = rw z (go (ltb (length old) 21) refl)
  where
    go : (b : Bool) → ltb (length old) 21 ≡ b → back ≡ (refused 7 old if b otherwise given start old)
    go true e = short (ltb-true _ _ e)
    go false e = room (ltb-false _ _ e)
