-- Laws that delete-tail's code goes by.
use Rattle.std.specs.Prelude.{ℕ, zero, suc, ◌+◌, ◌-◌, ◌*◌, ◌<◌, ◌≤◌, Bool, false, not, ◌||◌, ◌&&◌, List, [], ◌∷◌, ◌++◌, ◌≡◌, refl, Ok, Err, length, get_or, take, drop, ltb, eqb}
use Rattle.std.specs.Cmp.Lexicographic.{pointwise}
use Rattle.std.proofs.Common.{ap, sym, subst, ◌∙◌, arith}
use borrow.Author.Tests.{ltb-true, ltb-false, not-false}
use Rattle.costs.specs.Laws.{passed, or_left}
use Rattle.costs.specs.Choice.{◌if◌otherwise◌}
use Rattle.costs.specs.Refusal.{number_of}
use Rattle.costs.specs.declared.Refusal.{Refusal}
use Rattle.costs.specs.declared.Step.TheVariants.{Pop, Swap}
use Rattle.replay.specs.Machine.{plain_rules}
use Rattle.star_swap.specs.Tests.{or_right}
use Rattle.star_swap.specs.Refusal.{written_of}
use Rattle.star_swap.specs.StarCode.{Pair}
use Rattle.star_swap.specs.Check.{Taken, taken, goal_window}
use Rattle.star_swap.specs.Call.{written_refused, written_given}
use Rattle.builders.specs.Draft.{Draft, fresh, does, routed}
use Rattle.builders.specs.Tail.{begins, bury, pops, dead, buried, uncovered, delete_tail, not_tail, tail_refusal, deleted}
use Rattle.builders.specs.TailLaws.{IsTail, begins_is, does_length, uncovered_is, uncovered_pair}
use Rattle.builders.specs.Work.{does_size}

-- the goal is the beginning, as the library compares slices
pub begins_by : (goal start : List ℕ) → pointwise eqb goal (take (length goal) start) ≡ begins goal start
unfolding begins
begins_by [] start = refl
begins_by (x ∷ goal) [] = refl
begins_by (x ∷ goal) (y ∷ start) = ap (λ (b : Bool). eqb x y && b) (begins_by goal start)

-- the lengths of what is buried and popped
bury_sizes : (n i : ℕ) (p : Draft) → n ≤ length p.window → (length (bury n i p).window + n ≡ length p.window) × (length (bury n i p).steps ≡ length p.steps + 2 * n)
unfolding bury
bury_sizes zero i p h = (omega arith, omega arith)
bury_sizes (suc n) i p h =
    let q : Draft = does (Swap (length p.window - 1 - i)) p in
    let a = does_size (Swap (length p.window - 1 - i)) p in
    let b = does_size Pop q in
    let r = bury_sizes n (suc i) (does Pop q) (omega (arith, a, b)) in
    (omega (arith, r.0, a, b), omega (arith, r.1, does_length Pop q, does_length (Swap (length p.window - 1 - i)) p))

pops_sizes : (n : ℕ) (p : Draft) → n ≤ length p.window → length (pops n p).steps ≡ length p.steps + n
unfolding pops
pops_sizes zero p h = omega arith
pops_sizes (suc n) p h = omega (arith, pops_sizes n (does Pop p) (omega (arith, does_size Pop p)), does_length Pop p)

-- the parts of delete-tail
module _ (start goal : List ℕ) (t : IsTail (length start) start goal) (n m : ℕ) (e : n ≡ buried start goal) (f : m ≡ dead start goal - n) (w₁ : Draft) (g : w₁ ≡ bury n 0 (fresh start)) where
  pub tail_pops : (m ≤ length w₁.window) × (length w₁.steps + m ≤ 128)
  tail_pops =
      let b = bury_sizes n 0 (fresh start) (omega (arith, t.shorter)) in
      rw g (omega (arith, b.0, t.shorter), omega (arith, b.1, t.shorter, t.short))

  module _ (w₂ : Draft) (h : w₂ ≡ pops m w₁) where
    tail_is : w₂ ≡ uncovered start goal
    unfolding uncovered
    tail_is = h ∙ rw (g, f, e)

    pub tail_routes : Pair w₂.window goal × (length w₂.steps ≤ 98)
    tail_routes = subst (λ (p : Draft). Pair p.window goal × (length p.steps ≤ 98)) (sym tail_is)
        (uncovered_pair (plain_rules 0 (length start) 0 []) start goal t, omega (arith, (uncovered_is (plain_rules 0 (length start) 0 []) start goal t).few))

    pub tail_wrote : (steps : List ℕ) → steps ≡ (routed goal w₂).steps → steps ≡ delete_tail start goal
    unfolding delete_tail
    tail_wrote steps r = r ∙ ap (λ (p : Draft). (routed goal p).steps) tail_is

-- the call: a refusal, and an accepted question
module _ (sm : ℕ) (start goal old : List ℕ) where
  pub tail_refused : (r : Refusal) → number_of r ≡ tail_refusal sm start goal (length old) → (written_of (Err r), old) ≡ deleted sm start goal old
  unfolding deleted
  tail_refused r e = written_refused _ (delete_tail start goal) old r e

  pub tail_given : (plan new : List ℕ) → 0 ≡ tail_refusal sm start goal (length old) → plan ≡ delete_tail start goal → new ≡ plan ++ drop (length plan) old → (written_of (Ok (length plan)), new) ≡ deleted sm start goal old
  unfolding deleted
  tail_given plan new e f g = written_given _ (delete_tail start goal) old new (length plan) (sym e) (ap length f) (g ∙ ap (λ (l : List ℕ). l ++ drop (length l) old) f)

pub tail_fits : (sm : ℕ) (start goal : List ℕ) → not_tail sm start goal ≡ false → length start ≤ 21 → ((i : ℕ) → i < length goal → get_or goal i 0 < 64) → IsTail sm start goal
unfolding not_tail
tail_fits sm start goal h short keys =
    let x : Bool = not (begins goal start) in
    let y : Bool = not (ltb (length goal) (length start)) in
    let z : Bool = ltb sm (length start) in
    let b = or_right x (y || z) h in
    record {
      parts = begins_is goal start (not-false _ (or_left x (y || z) h));
      shorter = ltb-true _ _ (not-false _ (or_left y z b));
      within = ltb-false _ _ (or_right y z b);
      short = short;
      keys = keys;
    }

-- what an accepted question may rest on
pub tail_accepted : (sm : ℕ) (start goal : List ℕ) (places : ℕ) → tail_refusal sm start goal places ≡ 0 → Taken sm start goal places × IsTail sm start goal
tail_accepted sm start goal places h =
    let t = taken sm start goal places (10 if not_tail sm start goal otherwise 0) h in
    let ten = passed 9 (not_tail sm start goal) 0 t.1 in
    (t.0, tail_fits sm start goal ten.0 t.0.start_short (goal_window sm start goal places t.0).keys)

-- the start's own length as the reach
pub tail_own : (sm : ℕ) (start goal : List ℕ) → IsTail sm start goal → IsTail (length start) start goal
tail_own sm start goal t = record { parts = t.parts; shorter = t.shorter; within = omega arith; short = t.short; keys = t.keys }
