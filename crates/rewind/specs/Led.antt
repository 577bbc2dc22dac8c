-- What stepping back is to find, and what its answer says of it (requests U2, U3).
use Rattle.std.specs.Prelude.{ℕ, ◌≤◌, false, List, ◌↔◌, ◌≡◌, length}
use Rattle.costs.specs.Table.{any_over}
use Rattle.replay.specs.Machine.{Rules, ends, ran_on, popped_on}
use Rattle.replay.specs.Beneath.{narrowed, too_tall}
use Rattle.rewind.specs.Rewind.{rewind_refusal, refused, given}
use Rattle.rewind.specs.declared.Rewound.{Rewound}

-- a start that replay takes above what lies beneath, which the steps lead to the end window with exactly these keys popped
pub record LedBack (q : Rules) (start steps popped end : List ℕ) : Type 0 where
  pub keys : any_over 63 start ≡ false
  pub fits : length start ≤ q.max_len
  pub stands : too_tall q.beneath (length start) ≡ false
  pub leads : ran_on (narrowed q) 0 steps start ≡ ends end
  pub pops : popped_on (narrowed q) steps start ≡ popped

-- the request's sentence of an answer and its result list: a number of the table is given beside an untouched list; where there is none, a start is
-- given exactly if it led here, and 11 exactly if none did
pub record SteppedBack (q : Rules) (end steps popped result : List ℕ) (r : Rewound × List ℕ) : Type 0 where
  pub lower : (rewind_refusal q end (length steps) popped (length result) ≡ 0 → ⊥) → r ≡ refused (rewind_refusal q end (length steps) popped (length result)) result
  pub given_iff : rewind_refusal q end (length steps) popped (length result) ≡ 0 → (start : List ℕ) → LedBack q start steps popped end ↔ (r ≡ given start result)
  pub none_iff : rewind_refusal q end (length steps) popped (length result) ≡ 0 → ((start : List ℕ) → LedBack q start steps popped end → ⊥) ↔ (r ≡ refused 11 result)
