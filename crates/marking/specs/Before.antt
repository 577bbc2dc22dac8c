-- Old answers remain (request U3): with nothing beneath the window, marking answers as document 01 has it, its number and fields.
use Rattle.std.specs.Prelude.{ℕ, suc, ◌<◌, ◌≤◌, Bool, true, ◌||◌, List, ◌≡◌, ltb, length}
use Rattle.std.proofs.Common.{ap, arith}
use borrow.Author.Tests.{ne_eqb}
use Rattle.costs.specs.Choice.{◌if◌otherwise◌}
use Rattle.costs.specs.Table.{any_over, kinds_fault, prices_fault}
use Rattle.costs.specs.declared.Cost.{Cost}
use Rattle.replay.specs.Machine.{Rules}
use Rattle.replay.specs.Beneath.{Footing, alone}
use Rattle.replay.specs.Before.{renumbered, remains, rows_long, long_over}
use Rattle.replay.specs.Replay.{reach_fault}
use Rattle.marking.specs.Marking.{mark_table, mark_refusal, outcome_on, no_mark, marked_on, marked}

module _ (q : Rules) (prices start goal steps : List ℕ) (most : Cost) where
  refuses_alike : (on : Footing) (n : ℕ) → mark_table on q prices start goal (length steps) ≡ suc n → marked_on on q prices start goal steps most ≡ no_mark (suc n) 0
  unfolding marked_on outcome_on
  refuses_alike on n e = rw (e, ne_eqb (suc n) 0 (λ k. omega (arith, k)))

  refuses_early : (on : Footing) → ltb 21 q.max_len ≡ true → mark_table on q prices start goal (length steps) ≡ (1 if reach_fault q.dup_max q.swap_max otherwise 2)
  unfolding mark_table
  refuses_early on e = rw e

  pub marked_before : q.beneath ≡ 0 → length start ≤ 1024 → marked q prices start goal steps most ≡ marked_on (alone q) q prices start goal steps most
  marked_before =
      remains q (λ on. marked_on on q prices start goal steps most) (λ on. mark_table on q prices start goal (length steps)) (λ n. no_mark n 0)
      (record { alike = refuses_alike; early = refuses_early }) (length start)

-- a start of over 1,024 keys has 12 where it had 6, whatever lies beneath, and every other number as it was
pub mark_long : (q : Rules) (prices start goal : List ℕ) (steps : ℕ) → 1024 < length start → mark_refusal q prices start goal steps ≡ renumbered (mark_table (alone q) q prices start goal steps)
unfolding mark_table
mark_long q prices start goal steps l =
    let six = ltb q.max_len (length start) || ltb q.max_len (length goal) in
    rows_long q (length start) (reach_fault q.dup_max q.swap_max) (ltb 65536 steps) (kinds_fault q.kinds || prices_fault prices) (any_over 63 start || any_over 63 goal) six six 0 l
    (λ w. ap (λ (b : Bool). b || ltb q.max_len (length goal)) (long_over q (length start) l w))
