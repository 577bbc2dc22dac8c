-- What star-swap's answer is worth, and the starred questions of document 01.
use Rattle.std.specs.Prelude.{ℕ, zero, suc, ◌<◌, ◌≤◌, false, ◌≡◌, refl, length, take, replicate}
use mathlib.Core.List.{List, [], ◌∷◌}
use Rattle.std.proofs.Math.Path.{ap, sym}
use Rattle.std.proofs.Common.{◌∙◌, arith, eq-eqb}
use Rattle.std.proofs.lemmas.List.{length-map}
use Rattle.costs.specs.Choice.{◌if◌otherwise◌}
use Rattle.replay.specs.Machine.{Rules, ran_on, ends}
use Rattle.replay.specs.Beneath.{narrowed}
use Rattle.replay.specs.Replay.{replay_refusal, replayed, replayed_to}
use Rattle.replay.specs.Laws.{replayed_to_lem}
use Rattle.star_swap.specs.Count.{cnt}
use Rattle.star_swap.specs.Star.{at, pick, trail_loop, trail, last_of, circuits, misplaced, star_swaps, code, codes}
use Rattle.star_swap.specs.StarLoop.{star_few}
use Rattle.star_swap.specs.Routes.{Routes, routes_routed, routed_routes, routed_least}
use Rattle.star_swap.specs.Tests.{by_test}
use Rattle.star_swap.specs.Refusal.{unroutable, builder_refusal, swap_refusal, star_swapped}
use Rattle.star_swap.specs.Check.{Taken, taken, taken_refusal, higher_row, start_window, goal_window}
use Rattle.star_swap.specs.Routable.{small_of, routable_routed, routed_routable}
use Rattle.star_swap.specs.Ran.{ran_star, ran_routes}
use Rattle.star_swap.specs.Call.{written_read, swap_routed, swap_pair}

module _ (sm : ℕ) (start goal : List ℕ) (places : ℕ) where
  -- where no number refuses, star-swap's list is a sequence of swaps below swap_max from the start to the goal
  pub star_swap_routes : swap_refusal sm start goal places ≡ 0 → Routes sm start goal (star_swaps start goal)
  star_swap_routes h =
      let t = swap_routed sm start goal places h in
      routed_routes sm start goal (goal_window sm start goal places t.0).keys t.1

  -- and no such sequence is shorter
  pub star_swap_least : swap_refusal sm start goal places ≡ 0 → (S : List ℕ) → Routes sm start goal S → length (star_swaps start goal) ≤ length S
  star_swap_least h S r =
      let t = swap_routed sm start goal places h in
      routed_least sm start goal S (goal_window sm start goal places t.0).keys r

  -- at most 30 steps, so the least step list holds them
  pub star_swap_few : swap_refusal sm start goal places ≡ 0 → length (codes (star_swaps start goal)) ≤ 30
  star_swap_few h = omega (arith, star_few start goal (swap_pair sm start goal places (sym h)), length-map (star_swaps start goal) code)

  -- 9 is given only where no sequence of swaps below swap_max leads from the start to the goal,
  pub nine_none : swap_refusal sm start goal places ≡ 9 → (S : List ℕ) → Routes sm start goal S → ⊥
  nine_none h S r =
      let e : unroutable sm start goal ≡ false = routed_routable sm start goal (routes_routed sm S start goal r) in
      let f : ◌≡◌ {A = ℕ} (9 if unroutable sm start goal otherwise 0) 9 = higher_row sm start goal places (9 if unroutable sm start goal otherwise 0) 1 h in
      let z : ◌≡◌ {A = ℕ} 0 9 = (rw e at f) in
      omega arith

  -- and wherever there is none, unless a lower number applies
  pub none_nine : builder_refusal sm start goal places 0 ≡ 0 → ((S : List ℕ) → Routes sm start goal S → ⊥) → swap_refusal sm start goal places ≡ 9
  none_nine h never =
      let t : Taken sm start goal places = (taken sm start goal places 0 h).0 in
      let g = goal_window sm start goal places t in
      taken_refusal sm start goal places (9 if unroutable sm start goal otherwise 0) t
      ∙ by_test (λ (n : ℕ). n ≡ 9) (unroutable sm start goal) 9 0 (λ e. refl)
      (λ e. absurd (never (star_swaps start goal) (routed_routes sm start goal g.keys (routable_routed sm start goal (small_of start (start_window sm start goal places t).keys) (small_of goal g.keys) e))))

module _ (q : Rules) (start goal : List ℕ) where
  -- in replay's machine of that swap reach, whatever its other rules, the steps lead from the start to the goal
  pub star_swap_reaches : (places : ℕ) → swap_refusal q.swap_max start goal places ≡ 0 → ran_on q 0 (codes (star_swaps start goal)) start ≡ ends goal
  star_swap_reaches places h =
      let t = swap_routed q.swap_max start goal places h in
      ran_star q 0 start goal (omega (arith, t.0.goal_short)) (goal_window q.swap_max start goal places t.0).keys t.1

  -- as a caller gets it: the answer's number of steps from the list after the call
  pub star_swap_called : (old : List ℕ) → (star_swapped q.swap_max start goal old).0.refusal ≡ 0 →
      ran_on q 0 (take (star_swapped q.swap_max start goal old).0.count (star_swapped q.swap_max start goal old).1) start ≡ ends goal
  unfolding star_swapped
  star_swap_called old h =
      let r = written_read (swap_refusal q.swap_max start goal (length old)) (codes (star_swaps start goal)) old h in
      ap (λ (l : List ℕ). ran_on q 0 l start) r.1 ∙ star_swap_reaches (length old) r.0

  -- where star-swap gives 9, the machine of that reach carries out no list of swaps from the start to the goal
  pub nine_never : (places : ℕ) → swap_refusal q.swap_max start goal places ≡ 9 → (S : List ℕ) → ((d : ℕ) → 0 < cnt d S → d < 256) → ran_on q 0 (codes S) start ≡ ends goal → ⊥
  nine_never places h S m e = nine_none q.swap_max start goal places h S (ran_routes q 0 S start goal m e)

-- and as replay answers it, for rules that replay accepts, whatever lies beneath
pub star_swap_replayed : (q : Rules) (start goal : List ℕ) (places : ℕ) (result popped : List ℕ) → swap_refusal q.swap_max start goal places ≡ 0 → replay_refusal q start (length (codes (star_swaps start goal))) (length result) (length popped) ≡ 0 →
    replayed q start (codes (star_swaps start goal)) result popped ≡ replayed_to q start (codes (star_swaps start goal)) goal result popped
star_swap_replayed q start goal places result popped h a = replayed_to_lem q start (codes (star_swaps start goal)) goal result popped a (star_swap_reaches (narrowed q) start goal places h)

-- a window that is the goal wants no swap
misplaced_none : (p : ℕ) (w : List ℕ) → misplaced p w w ≡ []
unfolding misplaced
misplaced_none p [] = refl
misplaced_none p (x ∷ w) = rw (eq-eqb x x refl) (misplaced_none (suc p) w)

circuits_none : (g c : ℕ → ℕ) (m k : ℕ) → circuits g c m k [] ≡ []
unfolding circuits trail trail_loop pick
circuits_none g c zero k = refl
circuits_none g c (suc m) k = circuits_none g c m (suc k)

pub star_still : (w : List ℕ) → star_swaps w w ≡ []
unfolding star_swaps trail trail_loop pick
star_still [] = refl
star_still (x ∷ w) = rw (misplaced_none 1 w) (circuits_none (at (x ∷ w)) (at (x ∷ w)) 64 0)

-- windows of three keys
abbrev three : ℕ → ℕ → ℕ → List ℕ
three a b c = a ∷ b ∷ c ∷ []

-- the starred example of a circuit
pub one_two_one : star_swapped 17 (three 0 1 2) (three 0 2 1) (replicate 128 9) ≡ (record { refusal = 0; count = 3 }, 513 ∷ 514 ∷ 513 ∷ replicate 125 9)
unfolding star_swapped builder_refusal unroutable star_swaps trail trail_loop pick circuits last_of misplaced
one_two_one = refl

-- the starred example of a trail
pub two_one : star_swapped 17 (three 0 1 2) (three 1 2 0) (replicate 128 9) ≡ (record { refusal = 0; count = 2 }, 514 ∷ 513 ∷ replicate 126 9)
unfolding star_swapped builder_refusal unroutable star_swaps trail trail_loop pick circuits last_of misplaced
two_one = refl
