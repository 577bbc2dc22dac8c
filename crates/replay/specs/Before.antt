-- Old answers remain (request U3): with nothing beneath the window, replay answers as document 01 has it, its number, fields and lists. The
-- laws of a table and of an answer on a footing are for marking, stepping back and the planner too.
use Rattle.std.specs.Prelude.{ℕ, suc, ◌<◌, ◌≤◌, Bool, true, false, ◌||◌, List, ◌≡◌, refl, eqb, ltb, length}
use Rattle.std.proofs.Common.{ap, sym, ◌∙◌, arith}
use borrow.Author.Tests.{ltb-false, lt-ltb, ne_eqb}
use Rattle.costs.specs.Choice.{◌if◌otherwise◌}
use Rattle.costs.specs.Table.{any_over, kinds_fault}
use Rattle.replay.specs.Machine.{Rules}
use Rattle.replay.specs.Beneath.{too_tall, Footing, footing, alone, footing_none, long_tall}
use Rattle.replay.specs.Replay.{reach_fault, replay_table, replay_refusal, outcome_on, no_replay, replayed_on, replayed}

-- ---- any call

-- the rows 1 to 5, 12 and 6 of a table, and what stands behind them
abbrev pub rows : (one two three four five twelve six : Bool) (behind : ℕ) → ℕ
rows one two three four five twelve six behind =
    1 if one otherwise 2 if two otherwise 3 if three otherwise 4 if four otherwise 5 if five otherwise 12 if twelve otherwise 6 if six otherwise behind

-- the number of a window of over 1,024 keys: 12 where document 01 had 6
abbrev pub renumbered : ℕ → ℕ
renumbered n = 12 if eqb n 6 otherwise n

module _ {A : Type 0} (q : Rules) (answer : Footing → A) (table : Footing → ℕ) (refused : ℕ → A) where
  -- a call that answers every number of its table alike, and refuses a window of over 21 before it looks at the stack
  pub record Refuses : Type 0 where
    pub alike : (on : Footing) (n : ℕ) → table on ≡ suc n → answer on ≡ refused (suc n)
    pub early : (on : Footing) → ltb 21 q.max_len ≡ true → table on ≡ (1 if reach_fault q.dup_max q.swap_max otherwise 2)

  first_rows : Refuses → (on : Footing) (b : Bool) → table on ≡ (1 if b otherwise 2) → answer on ≡ refused (1 if b otherwise 2)
  first_rows r on true e = r.alike on 0 e
  first_rows r on false e = r.alike on 1 e

  -- with nothing beneath, and a window of at most 1,024 keys, it answers as it did
  pub remains : Refuses → (n : ℕ) → q.beneath ≡ 0 → n ≤ 1024 → answer (footing q n) ≡ answer (alone q)
  remains r n e l = go (ltb 21 q.max_len) refl
    where
      go : (b : Bool) → ltb 21 q.max_len ≡ b → answer (footing q n) ≡ answer (alone q)
      go true w =
          first_rows r (footing q n) (reach_fault q.dup_max q.swap_max) (r.early (footing q n) w)
          ∙ sym (first_rows r (alone q) (reach_fault q.dup_max q.swap_max) (r.early (alone q) w))
      go false w = ap answer (footing_none q n e (omega (arith, ltb-false 21 q.max_len w)) l)

-- a window of over 1,024 keys has 12 where it had 6, whatever lies beneath and whatever 6 reads now, and every other number as it was
pub rows_long : (q : Rules) (n : ℕ) (one three four five six now : Bool) (behind : ℕ) → 1024 < n → (ltb 21 q.max_len ≡ false → six ≡ true) →
    rows one (ltb 21 q.max_len) three four five (too_tall q.beneath n) now behind ≡ renumbered (rows one (ltb 21 q.max_len) three four five false six behind)
rows_long q n one three four five six now behind l long = go one (ltb 21 q.max_len) refl three four five
  where
    go : (one two : Bool) → ltb 21 q.max_len ≡ two → (three four five : Bool) → rows one two three four five (too_tall q.beneath n) now behind ≡ renumbered (rows one two three four five false six behind)
    go true two w three four five = refl
    go false true w three four five = refl
    go false false w true four five = refl
    go false false w false true five = refl
    go false false w false false true = refl
    go false false w false false false = rw (long_tall q.beneath n l, long w)

-- a window of over 1,024 keys is over max_len, where that is at most 21
pub long_over : (q : Rules) (n : ℕ) → 1024 < n → ltb 21 q.max_len ≡ false → ltb q.max_len n ≡ true
long_over q n l w = lt-ltb q.max_len n (omega (arith, l, ltb-false 21 q.max_len w))

-- ---- replay

module _ (q : Rules) (start steps result popped : List ℕ) where
  refuses_alike : (on : Footing) (n : ℕ) → replay_table on q start (length steps) (length result) (length popped) ≡ suc n → replayed_on on q start steps result popped ≡ (no_replay (suc n) 0, result, popped)
  unfolding outcome_on
  refuses_alike on n e = rw (e, ne_eqb (suc n) 0 (λ k. omega (arith, k)))

  refuses_early : (on : Footing) → ltb 21 q.max_len ≡ true → replay_table on q start (length steps) (length result) (length popped) ≡ (1 if reach_fault q.dup_max q.swap_max otherwise 2)
  unfolding replay_table
  refuses_early on e = rw e

  pub replayed_before : q.beneath ≡ 0 → length start ≤ 1024 → replayed q start steps result popped ≡ replayed_on (alone q) q start steps result popped
  replayed_before =
      remains q (λ on. replayed_on on q start steps result popped) (λ on. replay_table on q start (length steps) (length result) (length popped)) (λ n. (no_replay n 0, result, popped))
      (record { alike = refuses_alike; early = refuses_early }) (length start)

-- a start of over 1,024 keys
pub replay_long : (q : Rules) (start : List ℕ) (steps places keys : ℕ) → 1024 < length start → replay_refusal q start steps places keys ≡ renumbered (replay_table (alone q) q start steps places keys)
unfolding replay_table
replay_long q start steps places keys l =
    rows_long q (length start) (reach_fault q.dup_max q.swap_max) (ltb 65536 steps) (kinds_fault q.kinds) (any_over 63 start) (ltb q.max_len (length start)) (ltb q.max_len (length start))
    (7 if ltb places 21 || ltb keys steps otherwise 0) l (long_over q (length start) l)
