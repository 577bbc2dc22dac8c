-- The turns of a run, and what holds of them if it holds of the three ways in which a turn goes on.
use Rattle.std.specs.Prelude.{◌≡◌, leb, eqb}
use Rattle.std.proofs.Math.Path.{refl}
use Rattle.std.proofs.Common.{subst, eqb→eq}
use Rattle.std.specs.Prelude.{Option, None, Some}
use mathlib.Core.List.{List, [], ◌∷◌}
use Rattle.std.proofs.Math.Dec.{nleb→lt}
use Rattle.astar.specs.Cost.{CostAlgebra, same}
use Rattle.astar.specs.Search.{Problem, Allowance, Search, go, Node, Entry, find, cut, without, over, visit, drawn, turn_on, turn}
use Rattle.astar.specs.Tests.{by_cond}
use Rattle.astar.specs.Turns.{OnGo, Keeps}

module _ (K : CostAlgebra) (Q : Problem K) where
  module _ (A : Allowance) (P : Search K.C Q.Step → Type 0) (s : Search K.C Q.Step) (k : Keeps K Q A P s) where
    of_drawn :
        (e : Entry K.C) (es : List (Entry K.C)) (o : Option (Node K.C Q.Step)) →
        s.work.queue ≡ e ∷ es →
        find e.state s.work.nodes ≡ o →
        OnGo P (drawn K Q A (without K Q es s) e o)
    unfolding drawn visit
    of_drawn e es None q f = k.skips e es q
    of_drawn e es (Some n) q f =
        by_cond
        (OnGo P)
        (same K e.g n.cost)
        (λ _.
        by_cond
        (OnGo P)
        (eqb e.state Q.goal)
        (λ at. k.records e es n q f (eqb→eq _ _ at))
        (λ _.
        by_cond
        (OnGo P)
        (cut K s.hand e.f)
        (λ _. tt)
        (λ _.
        by_cond
        (OnGo P)
        (over K Q A (without K Q es s))
        (λ _. tt)
        (λ room. by_cond (OnGo P) (leb A.expansions s.count) (λ _. tt) (λ left. k.expands e es n q f room (nleb→lt _ _ left))))))
        (λ _. k.skips e es q)

    of_queue : (es : List (Entry K.C)) → s.work.queue ≡ es → OnGo P (turn_on K Q A s es)
    unfolding turn_on
    of_queue [] q = tt
    of_queue (e ∷ es) q = of_drawn e es (find e.state s.work.nodes) q refl

    pub of_turn : OnGo P (turn K Q A s)
    unfolding turn
    of_turn = of_queue s.work.queue refl

    pub of_go : (t : Search K.C Q.Step) → turn K Q A s ≡ go t → P t
    of_go t e = subst (OnGo P) e of_turn
