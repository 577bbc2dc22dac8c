-- The phases of dup-and-star behind one another, and delete-tail as a builder.
use Rattle.std.specs.Prelude.{ℕ, ◌≤◌, true, false, List, ◌≡◌, refl, Option, None, Some, length, take, drop}
use Rattle.std.proofs.Common.{ap, ap₂, sym, ◌∙◌, take_at}
use Rattle.replay.specs.Machine.{Rules}
use Rattle.star_swap.specs.StarCode.{Pair}
use Rattle.star_swap.specs.Check.{Window}
use Rattle.star_swap.specs.Refusal.{unroutable}
use Rattle.star_swap.specs.Routable.{small_of, routable_routed, routed_pair}
use Rattle.builders.specs.Draft.{Draft, fresh, routed, steps_of, Over, placed, Built}
use Rattle.builders.specs.Dup.{trimmed, filled, finished, dup_and_star}

-- star-swap finishes, or refuses
module _ (sm : ℕ) (goal : List ℕ) (p : Draft) where
  pub finish_can : Window p.window → Window goal → false ≡ unroutable sm p.window goal → Pair p.window goal
  finish_can w g e =
      let m = small_of p.window w.keys in
      let k = small_of goal g.keys in
      routed_pair sm p.window goal w.short m k (routable_routed sm p.window goal m k (sym e))

  pub finish_yes : (steps : List ℕ) → false ≡ unroutable sm p.window goal → steps ≡ (routed goal p).steps → Some steps ≡ steps_of (finished sm goal p)
  unfolding finished
  finish_yes steps e f = rw (← e) (ap Some f)

  pub finish_no : true ≡ unroutable sm p.window goal → None ≡ steps_of (finished sm goal p)
  unfolding finished
  finish_no e = rw (← e)

-- the phases
module _ (q : Rules) (start goal : List ℕ) where
  pub dup_untrimmed : None ≡ trimmed (length start) q.swap_max goal (fresh start) → None ≡ steps_of (dup_and_star q start goal)
  unfolding dup_and_star
  dup_untrimmed e = rw (← e)

  module _ (p : Draft) (e : Some p ≡ trimmed (length start) q.swap_max goal (fresh start)) where
    pub dup_unfilled : None ≡ filled 64 0 q goal p → None ≡ steps_of (dup_and_star q start goal)
    unfolding dup_and_star
    dup_unfilled f = rw (← e, ← f)

    pub dup_finished : (r : Draft) (o : Option (List ℕ)) → Some r ≡ filled 64 0 q goal p → o ≡ steps_of (finished q.swap_max goal r) → o ≡ steps_of (dup_and_star q start goal)
    unfolding dup_and_star
    dup_finished r o f g = rw (← e, ← f) g

-- a plan over the first places of a list is what the builder came to
pub built : (o : Option (List ℕ)) (plan : List ℕ) (n : ℕ) (old new : List ℕ) → Some plan ≡ o → Over plan n old new → n ≤ 128 → Built o (Some n) old new
built o plan n old new e g f =
    record {
      plan = ap Some (ap₂ take g.count g.list ∙ take_at plan (drop (length plan) old) (length plan) refl) ∙ e;
      few = f;
      list = g.list ∙ ap (λ (p : Option (List ℕ)). placed p old) e;
    }

pub built_none : (o : Option (List ℕ)) (list : List ℕ) → None ≡ o → Built o None list list
built_none o list e = record { plan = e; few = tt; list = ap (λ (p : Option (List ℕ)). placed p list) e }
