-- Laws that the star-swap call goes by.
use Rattle.std.specs.Prelude.{ℕ, zero, suc, ◌≤◌, ◌≡◌, refl, take, Ok, Err}
use mathlib.Core.List.{List, ◌++◌}
use Rattle.std.proofs.Math.Path.{ap, sym}
use Rattle.std.proofs.Common.{◌∙◌, arith, ne_eqb, take-append-drop, take_at}
use Rattle.std.proofs.Math.ListN.{length, drop, length-map}
use Rattle.costs.specs.Choice.{◌if◌otherwise◌}
use Rattle.costs.specs.Laws.{passed}
use Rattle.costs.specs.Refusal.{number_of, never_zero}
use Rattle.costs.specs.declared.Refusal.{Refusal}
use Rattle.star_swap.specs.Star.{star_swaps, code, codes}
use Rattle.star_swap.specs.StarCode.{Pair}
use Rattle.star_swap.specs.StarLoop.{Appended}
use Rattle.star_swap.specs.Routes.{Routed}
use Rattle.star_swap.specs.Refusal.{unroutable, swap_refusal, written, written_of, star_swapped}
use Rattle.star_swap.specs.Check.{Taken, taken, start_window, goal_window}
use Rattle.star_swap.specs.Routable.{small_of, routable_routed, routed_pair}

-- a builder's call that is refused, and one that gives its steps
pub written_refused : (n : ℕ) (plan old : List ℕ) (r : Refusal) → number_of r ≡ n → (written_of (Err r), old) ≡ written n plan old
written_refused n plan old r e = rw (← e, ne_eqb (number_of r) 0 (never_zero r))

pub written_given : (n : ℕ) (plan old new : List ℕ) (count : ℕ) → n ≡ 0 → count ≡ length plan → new ≡ plan ++ drop (length plan) old → (written_of (Ok count), new) ≡ written n plan old
written_given n plan old new count e f g = rw (e, f, g)

-- what a caller reads where no number is given: the steps
pub written_read : (n : ℕ) (plan old : List ℕ) → (written n plan old).0.refusal ≡ 0 → (n ≡ 0) × (take (written n plan old).0.count (written n plan old).1 ≡ plan)
written_read zero plan old e = (refl, take_at plan (drop (length plan) old) (length plan) refl)
written_read (suc n) plan old e = let z : suc n ≡ 0 = (rw (ne_eqb (suc n) 0 (λ z. omega arith)) at e) in absurd (omega arith)

module _ (sm : ℕ) (start goal old : List ℕ) where
  pub swap_refused : (r : Refusal) → number_of r ≡ swap_refusal sm start goal (length old) → (written_of (Err r), old) ≡ star_swapped sm start goal old
  unfolding star_swapped
  swap_refused r e = written_refused _ (codes (star_swaps start goal)) old r e

  pub swap_given : (new : List ℕ) (r : ℕ) → 0 ≡ swap_refusal sm start goal (length old) → Appended start goal old 0 new r → (written_of (Ok r), new) ≡ star_swapped sm start goal old
  unfolding star_swapped
  swap_given new r e a =
      let k : r ≡ length (codes (star_swaps start goal)) = omega (arith, a.number, length-map (star_swaps start goal) code) in
      written_given _ (codes (star_swaps start goal)) old new r (sym e) k
      (sym (take-append-drop r new) ∙ ap (λ (l : List ℕ). l ++ drop r new) a.text ∙ ap (λ (l : List ℕ). codes (star_swaps start goal) ++ l) a.rest ∙ ap (λ (m : ℕ). codes (star_swaps start goal) ++ drop m old) k)

-- what a question may rest on that star-swap does not refuse
pub swap_routed : (sm : ℕ) (start goal : List ℕ) (places : ℕ) → swap_refusal sm start goal places ≡ 0 → Taken sm start goal places × Routed sm start goal
swap_routed sm start goal places h =
    let t = taken sm start goal places (9 if unroutable sm start goal otherwise 0) h in
    let nine = passed 8 (unroutable sm start goal) 0 t.1 in (
      t.0,
      routable_routed sm start goal (small_of start (start_window sm start goal places t.0).keys) (small_of goal (goal_window sm start goal places t.0).keys) nine.0,
    )

module _ (sm : ℕ) (start goal : List ℕ) (places : ℕ) (e : 0 ≡ swap_refusal sm start goal places) where
  pub swap_pair : Pair start goal
  swap_pair =
      let t = swap_routed sm start goal places (sym e) in
      routed_pair sm start goal t.0.start_short (small_of start (start_window sm start goal places t.0).keys) (small_of goal (goal_window sm start goal places t.0).keys) t.1

  pub swap_places : 128 ≤ places
  swap_places = (swap_routed sm start goal places (sym e)).0.room
