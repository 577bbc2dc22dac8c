-- Old answers remain (request U3): with nothing beneath the window, stepping back answers as request U2 has it, its number, length and list.
use Rattle.std.specs.Prelude.{ℕ, suc, ◌<◌, ◌≤◌, true, ◌||◌, List, ◌≡◌, ltb, length}
use Rattle.std.proofs.Common.{arith}
use borrow.Author.Tests.{ne_eqb}
use Rattle.costs.specs.Choice.{◌if◌otherwise◌}
use Rattle.costs.specs.Table.{any_over, kinds_fault}
use Rattle.replay.specs.Machine.{Rules}
use Rattle.replay.specs.Beneath.{Footing, alone}
use Rattle.replay.specs.Before.{renumbered, remains, rows_long, long_over}
use Rattle.replay.specs.Replay.{reach_fault}
use Rattle.rewind.specs.Rewind.{rewind_table, rewind_refusal, refused, rewound_on, rewound}

module _ (q : Rules) (end steps popped result : List ℕ) where
  refuses_alike : (on : Footing) (n : ℕ) → rewind_table on q end (length steps) popped (length result) ≡ suc n → rewound_on on q end steps popped result ≡ refused (suc n) result
  unfolding rewound_on
  refuses_alike on n e = rw (e, ne_eqb (suc n) 0 (λ k. omega (arith, k)))

  refuses_early : (on : Footing) → ltb 21 q.max_len ≡ true → rewind_table on q end (length steps) popped (length result) ≡ (1 if reach_fault q.dup_max q.swap_max otherwise 2)
  unfolding rewind_table
  refuses_early on e = rw e

  pub rewound_before : q.beneath ≡ 0 → length end ≤ 1024 → rewound q end steps popped result ≡ rewound_on (alone q) q end steps popped result
  rewound_before =
      remains q (λ on. rewound_on on q end steps popped result) (λ on. rewind_table on q end (length steps) popped (length result)) (λ n. refused n result)
      (record { alike = refuses_alike; early = refuses_early }) (length end)

-- an end of over 1,024 keys has 12 where it had 6, whatever lies beneath, and every other number as it was
pub rewind_long : (q : Rules) (end : List ℕ) (steps : ℕ) (popped : List ℕ) (places : ℕ) → 1024 < length end → rewind_refusal q end steps popped places ≡ renumbered (rewind_table (alone q) q end steps popped places)
unfolding rewind_table
rewind_long q end steps popped places l =
    rows_long q (length end) (reach_fault q.dup_max q.swap_max) (ltb 65536 steps) (kinds_fault q.kinds) (any_over 63 end || any_over 63 popped) (ltb q.max_len (length end)) (ltb q.max_len (length end))
    (7 if ltb places 21 otherwise 0) l (long_over q (length end) l)
