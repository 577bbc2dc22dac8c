-- What the builders' plans are worth, and questions of document 01.
use Rattle.std.specs.Prelude.{ℕ, ◌<◌, ◌≤◌, false, ◌||◌, ◌≡◌, refl, take, replicate}
use Rattle.std.proofs.Math.Bool.{Bool, true, not}
use mathlib.Core.List.{List, [], ◌∷◌, ◌++◌}
use Rattle.std.specs.Prelude.{None, Some}
use Rattle.std.proofs.Math.Path.{ap}
use Rattle.std.proofs.Common.{◌∙◌, arith}
use borrow.Author.Tests.{eq-eqb, lt-ltb, le-ltb, ltb-true, ltb-false, not-false}
use Rattle.std.proofs.Math.ListN.{length, drop, length-append, length-drop}
use Rattle.std.proofs.lemmas.List.{length-map}
use Rattle.std.proofs.Math.Dec.{ltb}
use Rattle.costs.specs.Choice.{◌if◌otherwise◌}
use Rattle.costs.specs.Laws.{or_left}
use Rattle.costs.specs.Table.{kinds_fault}
use Rattle.replay.specs.Machine.{Rules, plain_rules, room, immediate, ran_on, after, ends}
use Rattle.replay.specs.Beneath.{narrowed}
use Rattle.replay.specs.Replay.{replay_refusal, replayed, replayed_to}
use Rattle.replay.specs.Laws.{replayed_to_lem}
use Rattle.star_swap.specs.Star.{run, pick, trail_loop, trail, last_of, circuits, misplaced, star_swaps, code, codes}
use Rattle.star_swap.specs.StarLoop.{star_few}
use Rattle.star_swap.specs.Tests.{or_right, by_test}
use Rattle.star_swap.specs.Refusal.{unroutable, builder_refusal}
use Rattle.star_swap.specs.Check.{Window, taken, taken_refusal, higher_row}
use Rattle.star_swap.specs.Routable.{small_of}
use Rattle.star_swap.specs.Call.{written_read}
use Rattle.builders.specs.Draft.{does, routed, steps_of}
use Rattle.builders.specs.Tail.{bury, pops, begins, uncovered, delete_tail, not_tail, tail_refusal, deleted}
use Rattle.builders.specs.TailLaws.{IsTail, begins_is, uncovered_is, uncovered_pair, delete_tail_replays}
use Rattle.builders.specs.TailCode.{tail_accepted}
use Rattle.builders.specs.Dup.{first_at, drop_at, within, trimmed, made, copied, added, added_times, filled, finished, dup_and_star}
use Rattle.builders.specs.DupLaws.{If, Plan, dup_and_star_goes}

module _ (q : Rules) (start goal : List ℕ) where
  -- where no number refuses, the steps lead replay's machine of that swap reach from the start to the goal, whatever its other rules
  pub delete_tail_reaches : (places : ℕ) → tail_refusal q.swap_max start goal places ≡ 0 → ran_on q 0 (delete_tail start goal) start ≡ ends goal
  delete_tail_reaches places h = delete_tail_replays q start goal (tail_accepted q.swap_max start goal places h).1

  -- as a caller gets it: the answer's number of steps from the list after the call
  pub delete_tail_called : (old : List ℕ) → (deleted q.swap_max start goal old).0.refusal ≡ 0 →
      ran_on q 0 (take (deleted q.swap_max start goal old).0.count (deleted q.swap_max start goal old).1) start ≡ ends goal
  unfolding deleted
  delete_tail_called old h =
      let r = written_read (tail_refusal q.swap_max start goal (length old)) (delete_tail start goal) old h in
      ap (λ (l : List ℕ). ran_on q 0 l start) r.1 ∙ delete_tail_reaches (length old) r.0

-- and as replay answers it, for rules that replay accepts, whatever lies beneath
pub delete_tail_replayed : (q : Rules) (start goal : List ℕ) (places : ℕ) (result popped : List ℕ) → tail_refusal q.swap_max start goal places ≡ 0 → replay_refusal q start (length (delete_tail start goal)) (length result) (length popped) ≡ 0 →
    replayed q start (delete_tail start goal) result popped ≡ replayed_to q start (delete_tail start goal) goal result popped
delete_tail_replayed q start goal places result popped h a = replayed_to_lem q start (delete_tail start goal) goal result popped a (delete_tail_reaches (narrowed q) start goal places h)

-- at most 72 steps, so the least step list holds them
pub delete_tail_few : (sm : ℕ) (start goal : List ℕ) → IsTail sm start goal → length (delete_tail start goal) ≤ 72
unfolding delete_tail routed
delete_tail_few sm start goal t =
    let q : Rules = plain_rules 0 sm 0 [] in
    let p = uncovered start goal in
    omega (
      arith,
      (uncovered_is q start goal t).few,
      star_few p.window goal (uncovered_pair q start goal t),
      length-append p.steps (codes (star_swaps p.window goal)),
      length-map (star_swaps p.window goal) code,
    )

-- the goal is a strictly shorter prefix of the start, and the start is no longer than the swaps reach (document 01, row 10)
pub record Shortened (sm : ℕ) (start goal : List ℕ) : Type 0 where
  pub rest : List ℕ
  pub parts : start ≡ goal ++ rest
  pub shorter : 0 < length rest
  pub within : length start ≤ sm

begins_with : (goal rest : List ℕ) → begins goal (goal ++ rest) ≡ true
unfolding begins
begins_with [] rest = refl
begins_with (x ∷ goal) rest = rw (eq-eqb x x refl) (begins_with goal rest)

module _ (sm : ℕ) (start goal : List ℕ) where
  tail_is : Shortened sm start goal → not_tail sm start goal ≡ false
  unfolding not_tail
  tail_is s =
      let b : begins goal start ≡ true = ap (begins goal) s.parts ∙ begins_with goal s.rest in
      let l : length goal < length start = omega (arith, ap length s.parts, length-append goal s.rest, s.shorter) in
      rw (b, lt-ltb _ _ l, le-ltb sm (length start) s.within)

  is_tail : not_tail sm start goal ≡ false → Shortened sm start goal
  unfolding not_tail
  is_tail h =
      let x : Bool = not (begins goal start) in
      let y : Bool = not (ltb (length goal) (length start)) in
      let z : Bool = ltb sm (length start) in
      let b = or_right x (y || z) h in
      let l : length goal < length start = ltb-true _ _ (not-false _ (or_left y z b)) in
      record {
        rest = drop (length goal) start;
        parts = begins_is goal start (not-false _ (or_left x (y || z) h));
        shorter = omega (arith, length-drop (length goal) start);
        within = ltb-false _ _ (or_right y z b);
      }

  module _ (places : ℕ) where
    -- 10 is given only where the goal is not such a prefix,
    pub ten_not : tail_refusal sm start goal places ≡ 10 → Shortened sm start goal → ⊥
    ten_not h s =
        let f : ◌≡◌ {A = ℕ} (10 if not_tail sm start goal otherwise 0) 10 = higher_row sm start goal places (10 if not_tail sm start goal otherwise 0) 2 h in
        let z : ◌≡◌ {A = ℕ} 0 10 = (rw (tail_is s) at f) in
        omega arith

    -- and wherever it is not, unless a lower number applies;
    pub not_ten : builder_refusal sm start goal places 0 ≡ 0 → (Shortened sm start goal → ⊥) → tail_refusal sm start goal places ≡ 10
    not_ten h never =
        taken_refusal sm start goal places (10 if not_tail sm start goal otherwise 0) (taken sm start goal places 0 h).0
        ∙ by_test (λ (n : ℕ). n ≡ 10) (not_tail sm start goal) 10 0 (λ e. refl) (λ e. absurd (never (is_tail e)))

    -- where it is, and no lower number applies, delete-tail never fails
    pub never_fails : builder_refusal sm start goal places 0 ≡ 0 → Shortened sm start goal → tail_refusal sm start goal places ≡ 0
    never_fails h s = taken_refusal sm start goal places (10 if not_tail sm start goal otherwise 0) (taken sm start goal places 0 h).0 ∙ rw (tail_is s)

-- the starred example of delete-tail
pub three_to_two : deleted 17 (0 ∷ 1 ∷ 2 ∷ []) (0 ∷ 1 ∷ []) (replicate 128 9) ≡ (record { refusal = 0; count = 3 }, 514 ∷ 0 ∷ 513 ∷ replicate 125 9)
unfolding deleted builder_refusal not_tail begins delete_tail uncovered bury pops does routed after run pick trail_loop trail last_of circuits misplaced star_swaps
three_to_two = refl

-- dup-and-star: what it gives, if anything, leads the machine from the start to the goal in at most 114 steps
pub dup_and_star_plan : (q : Rules) (start goal : List ℕ) → Window start → Window goal → q.max_len ≤ 21 → kinds_fault q.kinds ≡ false → If (Plan q start goal) (dup_and_star q start goal)
dup_and_star_plan q start goal s g m k = dup_and_star_goes q start goal s.short m k (small_of goal g.keys) (small_of start s.keys)

-- 32 values, the immediate zero, 31 other immediates
abbrev kinds : List ℕ
kinds = replicate 32 0 ++ 2 ∷ replicate 31 1

-- 0 1 to the empty window: pop, pop. 0 to 0 0: dup 0, and nothing where no Dup reaches. The empty window to 32: push 32
two_pops : steps_of (dup_and_star (plain_rules 16 17 21 kinds) (0 ∷ 1 ∷ []) []) ≡ Some (0 ∷ 0 ∷ [])
unfolding dup_and_star trimmed first_at within drop_at filled added_times added copied made finished unroutable routed does after run pick trail_loop trail last_of circuits misplaced star_swaps room immediate
two_pops = refl

one_dup : steps_of (dup_and_star (plain_rules 16 17 21 kinds) (0 ∷ []) (0 ∷ 0 ∷ [])) ≡ Some (256 ∷ [])
unfolding dup_and_star trimmed first_at within drop_at filled added_times added copied made finished unroutable routed does after run pick trail_loop trail last_of circuits misplaced star_swaps room immediate
one_dup = refl

no_dup : steps_of (dup_and_star (plain_rules 0 17 21 kinds) (0 ∷ []) (0 ∷ 0 ∷ [])) ≡ None
unfolding dup_and_star trimmed first_at within drop_at filled added_times added copied made finished unroutable routed does after run pick trail_loop trail last_of circuits misplaced star_swaps room immediate
no_dup = refl

one_push : steps_of (dup_and_star (plain_rules 16 17 21 kinds) [] (32 ∷ [])) ≡ Some (800 ∷ [])
unfolding dup_and_star trimmed first_at within drop_at filled added_times added copied made finished unroutable routed does after run pick trail_loop trail last_of circuits misplaced star_swaps room immediate
one_push = refl
