-- Demand 3, proved: of two answers before they become fields, of their fields and step lists, and as callers got them.
use Rattle.std.specs.Prelude.{ℕ, zero, suc, true, false, List, ◌≡◌, refl, T, eqb}
use Rattle.std.proofs.Common.{ap, sym, ◌∙◌, subst, arith, ne_eqb}
use Rattle.std.specs.Prelude.{Option, None, Some}
use Rattle.costs.specs.Choice.{◌if◌otherwise◌}
use Rattle.costs.specs.Cost.{no_more}
use Rattle.costs.specs.declared.Cost.{Cost}
use Rattle.replay.specs.Machine.{Rules}
use Rattle.replay.specs.Beneath.{narrowed}
use Rattle.algebra.specs.GasBytes.{gas_bytes}
use Rattle.astar.specs.Search.{Allowance}
use Rattle.astar.specs.Again.{◌⊑◌}
use Rattle.astar.specs.Planner.{Found, Answer as Answered}
use Rattle.astar.specs.Steady.{Settled, Steady}
use Rattle.planner.specs.Refusal.{Asked, Lent, narrow, plan_refusal}
use Rattle.planner.specs.Planned.{answered, fields_of, refused, steps_with, planned_on, planned_for}
use Rattle.planner.specs.Accepted.{accepted}
use Rattle.planner.specs.declared.Answer.{Answer}
use Rattle.planner.specs.Steady.{allowing, plan_cost, pass_mark, Demand3, steady_answers, le_more, plan_of, fields, no_plan, taken}

module _ (q : Rules) (start : List ℕ) where
  ended : (o : Option (Found Cost ℕ)) (e x : ℕ) → (fields_of q start o e x).ending ≡ e
  ended None e x = refl
  ended (Some p) e x = refl

  -- of two plans, and of one
  mark_falls : (o u : Option (Found Cost ℕ)) (e x i y : ℕ) (p v : Found Cost ℕ) → o ≡ Some p → u ≡ Some v → T (gas_bytes.le v.ceiling p.ceiling) →
      no_more (pass_mark (fields_of q start u i y)) (pass_mark (fields_of q start o e x)) ≡ true
  mark_falls o u e x i y p v f g h = rw (f, g) (le_more v.ceiling p.ceiling h)

  cost_within : (o : Option (Found Cost ℕ)) (e x : ℕ) (p : Found Cost ℕ) → o ≡ Some p → T (gas_bytes.le p.cost p.ceiling) → no_more (plan_cost (fields_of q start o e x)) (pass_mark (fields_of q start o e x)) ≡ true
  cost_within o e x p f h = rw f (le_more p.cost p.ceiling h)

  is_found : (o : Option (Found Cost ℕ)) (e x : ℕ) (p : Found Cost ℕ) → o ≡ Some p → (fields_of q start o e x).found ≡ 1
  is_found o e x p f = rw f

  pub steady_fields : (r s : Answered Cost ℕ) (xs ys : List ℕ) → Steady gas_bytes ℕ r s → Demand3 (fields q start r) (steps_with r.plan xs) (fields q start s) (steps_with s.plan ys)
  steady_fields r s xs ys d =
      record {
        stays = λ h. let p = no_plan q start r.plan r.ending r.expansions h in let v = d.stays p.0 p.1 in is_found s.plan s.ending s.expansions v.0 v.1;
        no_higher = λ h.
            let p = no_plan q start r.plan r.ending r.expansions h in
            let v = d.stays p.0 p.1 in
            mark_falls r.plan s.plan r.ending r.expansions s.ending s.expansions p.0 v.0 p.1 v.1 v.2;
        first_within = λ h.
            let p = no_plan q start r.plan r.ending r.expansions h in
            cost_within r.plan r.ending r.expansions p.0 p.1 (d.within_a p.0 p.1);
        second_within = λ h.
            let p = no_plan q start s.plan s.ending s.expansions h in
            cost_within s.plan s.ending s.expansions p.0 p.1 (d.within_b p.0 p.1);
        same_fields = λ h. ap (fields q start) (d.settled (subst Settled (ended r.plan r.ending r.expansions) h));
        same_steps = λ h.
            let e = d.settled (subst Settled (ended r.plan r.ending r.expansions) h) in
            taken q start r.plan r.ending r.expansions xs
            ∙ ap (λ (t : Answered Cost ℕ). plan_of t.plan) e
            ∙ sym (taken q start s.plan s.ending s.expansions ys);
      }

-- ---- the claim

-- two plannings of one question, with the same items beneath, both accepted, no allowance lower in the second, with lent lists of any lengths and contents
pub demand_3 : (a : Asked) (A A' : Allowance) (l m : Lent) (xs ys : List ℕ) → A ⊑ A' → plan_refusal (allowing a A) l ≡ 0 → plan_refusal (allowing a A') m ≡ 0 →
    Demand3 (planned_for (allowing a A) l xs).0 (planned_for (allowing a A) l xs).1 (planned_for (allowing a A') m ys).0 (planned_for (allowing a A') m ys).1
unfolding planned_on
demand_3 a A A' l m xs ys more h k =
    rw (h, k)
    (steady_fields (narrowed a.rules) a.start (answered (allowing (narrow a) A)) (answered (allowing (narrow a) A')) xs ys (steady_answers (narrow a) A A' m more (accepted (allowing a A') m k)))

-- no number beside an answer: the question was accepted
abbrev chosen : Answer × List ℕ → List ℕ → ℕ → Answer × List ℕ
chosen t xs n = t if eqb n 0 otherwise (refused n, xs)

chosen_zero : (t : Answer × List ℕ) (xs : List ℕ) (n : ℕ) → (chosen t xs n).0.refusal ≡ 0 → n ≡ 0
chosen_zero t xs zero h = refl
chosen_zero t xs (suc n) h = let k : eqb (suc n) 0 ≡ false = ne_eqb (suc n) 0 (λ e. omega arith) in rw k at h

accepted_answer : (a : Asked) (l : Lent) (xs : List ℕ) → (planned_for a l xs).0.refusal ≡ 0 → plan_refusal a l ≡ 0
unfolding planned_on
accepted_answer a l xs h = chosen_zero (fields (narrowed a.rules) a.start (answered (narrow a)), steps_with (answered (narrow a)).plan xs) xs (plan_refusal a l) h

-- the same of two answers as their callers got them
pub demand_3_called : (a : Asked) (A A' : Allowance) (l m : Lent) (xs ys : List ℕ) (r s : Answer) (xs' ys' : List ℕ) →
    (r, xs') ≡ planned_for (allowing a A) l xs → (s, ys') ≡ planned_for (allowing a A') m ys → A ⊑ A' → r.refusal ≡ 0 → s.refusal ≡ 0 → Demand3 r xs' s ys'
demand_3_called a A A' l m xs ys r s xs' ys' p q more h k =
    let u = accepted_answer (allowing a A) l xs (ap (λ (z : Answer × List ℕ). z.0.refusal) (sym p) ∙ h) in
    let v = accepted_answer (allowing a A') m ys (ap (λ (z : Answer × List ℕ). z.0.refusal) (sym q) ∙ k) in
    subst (λ (z : Answer × List ℕ). Demand3 r xs' z.0 z.1) (sym q)
    (subst (λ (z : Answer × List ℕ). Demand3 z.0 z.1 (planned_for (allowing a A') m ys).0 (planned_for (allowing a A') m ys).1) (sym p) (demand_3 a A A' l m xs ys more u v))
