-- Old answers remain (request U3): with nothing beneath the window, the planner answers as document 01 has it, its number, fields and steps.
use Rattle.std.specs.Prelude.{ℕ, suc, ◌<◌, ◌≤◌, Bool, true, false, ◌||◌, List, ◌≡◌, refl, ltb, length}
use Rattle.std.proofs.Common.{ap, ◌∙◌, arith}
use borrow.Author.Tests.{ne_eqb}
use Rattle.costs.specs.Choice.{◌if◌otherwise◌}
use Rattle.costs.specs.Table.{any_over, kinds_fault, prices_fault}
use Rattle.replay.specs.Beneath.{narrowed, Footing, alone}
use Rattle.replay.specs.Before.{renumbered, remains, rows_long, long_over}
use Rattle.replay.specs.Replay.{reach_fault}
use Rattle.planner.specs.Refusal.{Asked, Lent, allowance_fault, over_length, too_long, short_lists, plan_table, plan_refusal}
use Rattle.planner.specs.Planned.{refused, planned_on, planned_for}

module _ (a : Asked) (l : Lent) (steps : List ℕ) where
  refuses_alike : (on : Footing) (n : ℕ) → plan_table on a l ≡ suc n → planned_on on a l steps ≡ (refused (suc n), steps)
  unfolding planned_on
  refuses_alike on n e = rw (e, ne_eqb (suc n) 0 (λ k. omega (arith, k)))

  refuses_early : (on : Footing) → ltb 21 a.rules.max_len ≡ true → plan_table on a l ≡ (1 if reach_fault a.rules.dup_max a.rules.swap_max otherwise 2)
  unfolding plan_table
  refuses_early on e = rw e

  pub planned_before : a.rules.beneath ≡ 0 → length a.start ≤ 1024 → planned_for a l steps ≡ planned_on (alone a.rules) a l steps
  planned_before =
      remains a.rules (λ on. planned_on on a l steps) (λ on. plan_table on a l) (λ n. (refused n, steps))
      (record { alike = refuses_alike; early = refuses_early }) (length a.start)

-- a start of over 1,024 keys has 12 where it had 6, whatever lies beneath, and every other number as it was
pub plan_long : (a : Asked) (l : Lent) → 1024 < length a.start → plan_refusal a l ≡ renumbered (plan_table (alone a.rules) a l)
unfolding plan_table over_length
plan_long a l s =
    let q = a.rules in
    rows_long q (length a.start) (reach_fault q.dup_max q.swap_max) (allowance_fault a.allowance) (kinds_fault q.kinds || prices_fault a.prices) (any_over 63 a.start || any_over 63 a.goal)
    (too_long q a.start || too_long q a.goal) (too_long (narrowed q) a.start || too_long (narrowed q) a.goal) (7 if short_lists a.allowance l otherwise 0) s
    (λ w. ap (λ (b : Bool). (ltb q.swap_max (length a.start) || b) || too_long q a.goal) (long_over q (length a.start) s w) ∙ either_way (ltb q.swap_max (length a.start)) (too_long q a.goal))
  where
    either_way : (b c : Bool) → ((b || true) || c) ≡ true
    either_way true c = refl
    either_way false c = refl
