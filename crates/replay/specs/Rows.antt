-- The rows that the refusal tables of replay, stepping back, marking and the planner share.
use Rattle.std.specs.Prelude.{ℕ, Bool, true, false, ◌||◌, List, [], ◌≡◌, refl, length, eqb, ltb}
use Rattle.std.proofs.Common.{ne_eqb}
use Rattle.std.proofs.Math.Bool.{or-false}
use Rattle.costs.specs.Choice.{◌if◌otherwise◌}
use Rattle.costs.specs.Refusal.{number_of, never_zero}
use Rattle.costs.specs.Table.{any_over, kinds_fault}
use Rattle.costs.specs.declared.Refusal.{Refusal}
use Rattle.replay.specs.Machine.{Rules, above, ruled}
use Rattle.replay.specs.Beneath.{too_tall}
use Rattle.replay.specs.Replay.{reach_fault, replay_table, replay_refusal}
use Rattle.replay.specs.declared.rules.Given.{Given}

-- the rules of a call, as it gives them
abbrev pub given_by : Given → Rules
given_by g = above g.beneath (ruled g.cfg g.kinds.now)

-- rows 1 to 4, of the rules, and of whether a number is too great: the first that applies, or 0
unfoldable pub first_rows : Rules → Bool → ℕ
first_rows q beyond =
    1 if reach_fault q.dup_max q.swap_max otherwise
    2 if ltb 21 q.max_len otherwise
    3 if beyond otherwise
    4 if kinds_fault q.kinds otherwise
    0

-- rows 5, 12 and 6, of the window that a call begins with, a second list of keys, and whether one is too long: the first that applies, or 0
unfoldable pub key_rows : Rules → (window second : List ℕ) → Bool → ℕ
key_rows q window second long =
    5 if any_over 63 window || any_over 63 second otherwise
    12 if too_tall q.beneath (length window) otherwise
    6 if long otherwise
    0

-- the rows of a table behind others: they count where none of those applies
abbrev pub then_rows : ℕ → ℕ → ℕ
then_rows n behind = behind if eqb n 0 otherwise n

-- ---- laws

-- a row that applies decides
pub row_stops : (r : Refusal) (n behind : ℕ) → number_of r ≡ n → number_of r ≡ then_rows n behind
row_stops r n behind e = rw (← e, ne_eqb (number_of r) 0 (never_zero r))

-- where none applies the rows behind decide
pub rows_pass : (n behind : ℕ) → 0 ≡ n → behind ≡ then_rows n behind
rows_pass n behind e = rw (← e)

-- the first rows over the rows behind them
pub first_over : (one two three four : Bool) (behind : ℕ) →
    (1 if one otherwise 2 if two otherwise 3 if three otherwise 4 if four otherwise behind) ≡ then_rows (1 if one otherwise 2 if two otherwise 3 if three otherwise 4 if four otherwise 0) behind
first_over true two three four behind = refl
first_over false true three four behind = refl
first_over false false true four behind = refl
first_over false false false true behind = refl
first_over false false false false behind = refl

-- row 4 of two lists: that of the first, then that of the second
pub four_over : (kinds prices : Bool) (behind : ℕ) → (4 if kinds || prices otherwise behind) ≡ (4 if kinds otherwise 4 if prices otherwise behind)
four_over true prices behind = refl
four_over false prices behind = refl

-- the rows of keys over the rows behind them
pub keys_over : (five twelve six : Bool) (behind : ℕ) → (5 if five otherwise 12 if twelve otherwise 6 if six otherwise behind) ≡ then_rows (5 if five otherwise 12 if twelve otherwise 6 if six otherwise 0) behind
keys_over true twelve six behind = refl
keys_over false true six behind = refl
keys_over false false true behind = refl
keys_over false false false behind = refl

-- replay's table in these parts
pub replay_parts : (q : Rules) (start : List ℕ) (steps places keys : ℕ) →
    replay_refusal q start steps places keys ≡ then_rows (first_rows q (ltb 65536 steps)) (then_rows (key_rows q start [] (ltb q.max_len (length start))) (7 if ltb places 21 || ltb keys steps otherwise 0))
unfolding replay_table first_rows key_rows
replay_parts q start steps places keys =
    rw (
      or-false (any_over 63 start),
      ← keys_over (any_over 63 start) (too_tall q.beneath (length start)) (ltb q.max_len (length start)) (7 if ltb places 21 || ltb keys steps otherwise 0),
      ← first_over (reach_fault q.dup_max q.swap_max) (ltb 21 q.max_len) (ltb 65536 steps) (kinds_fault q.kinds) (5 if any_over 63 start otherwise 12 if too_tall q.beneath (length start) otherwise 6 if ltb q.max_len (length start) otherwise 7 if ltb places 21 || ltb keys steps otherwise 0),
    )
    refl
