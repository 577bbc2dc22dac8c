-- T4: the room that the two lists need.
use Rattle.std.specs.Prelude.{Bool, true, false, cond, not, T, ltb}
use Rattle.std.proofs.Common.{ap, subst}
use Prim.Native.Nat.{ℕ, ◌+◌, ◌≤◌, max}
use native.Mathlib.Omega.{arith}
use Rattle.std.proofs.Math.Dec.{nltb→le}
use Rattle.std.proofs.Math.ListN.{length}
use Rattle.astar.specs.Cost.{CostAlgebra}
use Rattle.astar.specs.Search.{Problem, Allowance, Search, Hand, step_of, without, allowed, over, begin}
use Rattle.astar.specs.Tests.{nor_l, nor_r}
use Rattle.astar.specs.Turns.{Reach, here, next, Keeps}
use Rattle.astar.proofs.Turns.{of_go}
use Rattle.astar.specs.Lists.{offers_longer}
use Rattle.astar.specs.Room.{Bounded, Within}

module _ (K : CostAlgebra) (Q : Problem K) (few dear : ℕ) (B : Bounded K Q few dear) (A : Allowance) where
  abbrev pub largest : ℕ
  largest = max A.states_without A.states_with + few

  allowed_most : (H : Hand K.C) → allowed K Q A H ≤ max A.states_without A.states_with
  allowed_most H = either H.have
    where
      either : (b : Bool) → cond b A.states_with A.states_without ≤ max A.states_without A.states_with
      either true = omega arith
      either false = omega arith

  over_not : (s : Search K.C Q.Step) → T (not (over K Q A s)) → Within (max A.states_without A.states_with) s
  unfolding over
  over_not s h =
      let m : ℕ = allowed K Q A s.hand in
      let i : ℕ = length s.work.nodes in
      let j : ℕ = length s.work.queue in
      omega (arith, allowed_most s.hand, nltb→le m i (nor_l (ltb m i) (ltb m j) h), nltb→le m j (nor_r (ltb m i) (ltb m j) h))

  turn_within : (s : Search K.C Q.Step) → Within largest s → Keeps K Q A (Within largest) s
  turn_within s w =
      record {
        skips = λ e es q. omega (arith, w, ap length q);
        records = λ e es n q f at. omega (arith, w, ap length q);
        expands = λ e es n q f room left.
            omega (
              arith,
              over_not (without K Q es s) room,
              B.number e.state (step_of n.parent),
              offers_longer K Q s.hand e.state n.cost (Q.after e.state (step_of n.parent)) (without K Q es s).work,
            );
      }

  -- T4
  pub reach_within : {t s : Search K.C Q.Step} → Reach K Q A t s → Within largest s → Within largest t
  reach_within (here p) w = subst (Within largest) p w
  reach_within (next {s} {s'} p r) w = reach_within r (of_go K Q A (Within largest) s (turn_within s w) s' p)

  pub begin_within : (bound : K.C) (have : Bool) → 1 ≤ largest → Within largest (begin K Q bound have)
  unfolding begin
  begin_within bound have h = omega arith
