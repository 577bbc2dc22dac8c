-- What the rest of the steps reach from the window so far decides: there is such a window of the length in hand.
use Rattle.std.specs.Prelude.{ℕ, ◌≡◌, ◌≤◌, max, List}
use Rattle.std.proofs.Math.ListN as list
use Rattle.replay.specs.Machine as machine
use Rattle.replay.specs.Machine.{Rules, rules_of}
use Rattle.replay.proofs.rules.Rules.highest.Given as goal

-- after i codes: a window of n keys, the greatest length so far, and what the other codes reach from there
pub record Way (q : Rules) (start steps : List ℕ) (n most i : ℕ) : Type 0 where
  pub window : List ℕ
  pub long : list.length window ≡ n
  pub low : n ≤ most
  pub reaches : machine.highest q steps start ≡ max most (machine.highest q (list.drop i steps) window)

abbrev pub invariant-loop-code : goal.invariant-loop-code
invariant-loop-code l = Way (rules_of l.self) l.start l.steps l.length l.most l.code-index
