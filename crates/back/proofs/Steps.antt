-- The two passes.
use Rattle.std.proofs.Common.{◌≡◌, refl, sym, ap, ◌∙◌, inl, inr, Bool, true, false, Option, None, Some, List, ◌∷◌, ℕ, suc, ◌+◌, ◌-◌, ◌≤◌, ◌<◌, arith, eqb, length, drop, set, IsSome}
use Rattle.std.proofs.lemmas.Bool.{cases_Bool, false_from_ne_true}
use Rattle.std.proofs.lemmas.Grind.{common_steps}
use Rattle.std.proofs.lemmas.List.{length-set, drop_all}
use Rattle.costs.specs.declared.Step.{Step}
use Rattle.costs.specs.Laws.{some_injective}
use Rattle.costs.specs.Step.{code_of}
use Rattle.algebra.specs.GasBytes.{gas_bytes}
use Rattle.astar.specs.Search.{find, parent_in, read_back}
use Rattle.window.specs.declared.PackedState.{PackedState}
use Rattle.window.specs.State.{whole}
use Rattle.lists.specs.View.{SearchNode, parent_is}
use Rattle.offer.specs.Rules.{bare}
use Rattle.back.specs.Back.{count_back, plan, HasSteps, Counted}
use Rattle.back.proofs.Laws.{count_zero, count_here, count_none, count_on, count_next, count_within, read_here, read_on}

-- ---- counting

-- the count from at on is the count from the goal on
pub record Counting (from to : PackedState) (most : ℕ) (ns : List SearchNode) (at : PackedState) (k : ℕ) : Type 0 where
  pub same : count_back (whole from) (suc most - k) ns (whole at) k ≡ count_back (whole from) (suc most) ns (whole to) 0

pub counting_first : (from to : PackedState) (most : ℕ) (ns : List SearchNode) → Counting from to most ns to 0
counting_first from to most ns = let e : suc most - 0 ≡ suc most = omega arith in record { same = rw e }

module _ (from to : PackedState) (most : ℕ) (ns : List SearchNode) (at : PackedState) (k : ℕ) (C : Counting from to most ns at k) where
  pub counted_out : suc most ≤ k → Counted from to most ns None
  counted_out l = let z : suc most - k ≡ 0 = omega arith in record { count_is = sym (count_zero (whole from) ns (whole at) k) ∙ rw z at C.same; few = tt }

  module _ (l : k ≤ most) (t : Bool) (tE : t ≡ eqb (whole at) (whole from)) where
    on : count_back (whole from) (suc (most - k)) ns (whole at) k ≡ count_back (whole from) (suc most) ns (whole to) 0
    on = let e : suc most - k ≡ suc (most - k) = omega arith in rw e at C.same

    pub counted_here : t ≡ true → Counted from to most ns (Some k)
    counted_here y = record { count_is = sym (count_here (whole from) ns (most - k) (whole at) k (sym tE ∙ y)) ∙ on; few = l }

    module _ (f : t ≡ false) where
      pub counted_missing : None ≡ parent_in (find (whole at) ns) → Counted from to most ns None
      counted_missing e = record { count_is = sym (count_none (whole from) ns (most - k) (whole at) k (sym tE ∙ f) (sym e)) ∙ on; few = tt }

      pub counting_on : (up : PackedState) (b : ℕ) → Some (whole up, b) ≡ parent_in (find (whole at) ns) → Counting from to most ns up (k + 1)
      counting_on up b e =
          let s : suc most - (k + 1) ≡ most - k = omega arith in
          let t : k + 1 ≡ suc k = omega arith in
          record { same = rw (s, t) (sym (count_on (whole from) ns (most - k) (whole at) k (whole up) b (sym tE ∙ f) (sym e)) ∙ on) }

-- ---- writing

-- i steps of k are not yet written, and at is where they lead
pub record Writing (from to : PackedState) (most : ℕ) (ns : List SearchNode) (k : ℕ) (ys : List ℕ) (at : PackedState) (i : ℕ) : Type 0 where
  pub count_left : count_back (whole from) (suc most - k + i) ns (whole at) (k - i) ≡ Some k
  pub read_left : read_back gas_bytes (bare (whole from) (whole to)) (suc most - k + i) ns (whole at) (drop i ys) ≡ plan from to most ns
  pub order : i ≤ k
  pub few : k ≤ most
  pub long : length ys ≡ k

pub writing_first : (from to : PackedState) (most : ℕ) (ns : List SearchNode) (ys : List ℕ) → HasSteps from to most ns (length ys) → Writing from to most ns (length ys) ys to (length ys)
writing_first from to most ns ys e =
    let few = count_within (whole from) ns (suc most) (whole to) 0 (length ys) e in
    let a : suc most - length ys + length ys ≡ suc most = omega arith in
    let b : length ys - length ys ≡ 0 = omega arith in
    record { count_left = rw (a, b) e; read_left = rw (a, drop_all (length ys) ys (omega arith)); order = omega arith; few = omega arith; long = refl }

module _ (from to : PackedState) (most : ℕ) (ns : List SearchNode) (k : ℕ) (ys : List ℕ) (at : PackedState) (i : ℕ) (W : Writing from to most ns k ys at i) where
  abbrev j : ℕ
  j = most - k + i

  fuel : suc most - k + i ≡ suc j
  fuel = omega (arith, W.few)

  counted : count_back (whole from) (suc j) ns (whole at) (k - i) ≡ Some k
  counted = rw fuel at W.count_left

  read : read_back gas_bytes (bare (whole from) (whole to)) (suc j) ns (whole at) (drop i ys) ≡ plan from to most ns
  read = rw fuel at W.read_left

  -- where a step is left, the state is not the start
  not_there : 0 < i → eqb (whole at) (whole from) ≡ false
  not_there p =
      false_from_ne_true (eqb (whole at) (whole from))
      (λ t. let e : k - i ≡ k = some_injective (k - i) k (sym (count_here (whole from) ns j (whole at) (k - i) t) ∙ counted) in omega (arith, W.order))

  -- and has a parent
  pub never_missing : 0 < i → (r : Option (PackedState × Step)) → parent_is r ≡ parent_in (find (whole at) ns) → IsSome r
  never_missing p None e = let n = count_next (whole from) ns j (whole at) (k - i) k (not_there p) counted in absurd (cc (n.0.1))
  never_missing p (Some r) e = refl

  -- one step more
  pub written_on : 0 < i → (up : PackedState) (step : Step) (b : ℕ) (r : Option (PackedState × Step)) → parent_is r ≡ parent_in (find (whole at) ns) → r ≡ Some (up, step) → b ≡ code_of step → Writing from to most ns k (set ys (i - 1) b) up (i - 1)
  written_on p up step b r e is be =
      let q : parent_in (find (whole at) ns) ≡ Some (whole up, b) = sym e ∙ ap parent_is is ∙ rw be in
      let f : suc most - k + (i - 1) ≡ j = omega (arith, W.few) in
      let c : k - (i - 1) ≡ suc (k - i) = omega (arith, W.order) in
      let s : drop (i - 1) (set ys (i - 1) b) ≡ b ∷ drop i ys = grind (arith, common_steps, W.order, W.long) in
      record {
        count_left = rw (f, c) (sym (count_on (whole from) ns j (whole at) (k - i) (whole up) b (not_there p) q) ∙ counted);
        read_left = rw (f, s) (sym (read_on from to ns j (whole at) (whole up) b (drop i ys) (not_there p) q) ∙ read);
        order = omega (arith, W.order);
        few = W.few;
        long = length-set ys (i - 1) b ∙ W.long;
      }

  -- no step left
  pub written_all : i ≤ 0 → plan from to most ns ≡ Some ys
  written_all l =
      let z : i ≡ 0 = omega arith in
      elim (cases_Bool (eqb (whole at) (whole from))) [
        | inl t ↦ sym read ∙ read_here from to ns j (whole at) (drop i ys) t ∙ rw z
        | inr f ↦
            let n = count_next (whole from) ns j (whole at) (k - i) k f counted in
            let w = count_within (whole from) ns j n.0.0.0 (suc (k - i)) k n.1 in
            absurd (omega arith)
      ]
