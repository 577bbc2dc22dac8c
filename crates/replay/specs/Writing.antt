-- The list of popped keys while it is written.
use Rattle.std.specs.Prelude.{ℕ, ◌+◌, ◌<◌, ◌≤◌, List, [], ◌∷◌, ◌++◌, ◌≡◌, refl, length, get_or, set, drop}
use Rattle.std.specs.Prelude.{None, Some}
use Rattle.std.proofs.Common.{ap, sym, subst, ◌∙◌, arith, length-set, length-drop}
use Rattle.std.proofs.Math.Seq.{paste, paste-zero}
use Rattle.costs.specs.Laws.{drop_turn}
use Rattle.costs.specs.Step.{decoded}
use Rattle.window.specs.declared.PackedState.{PackedState}
use Rattle.window.specs.Keys.{keys_of, Window}
use Rattle.window.specs.Written.{over_turn, over_whole}
use Rattle.replay.specs.Machine.{Rules, step_on, gone_by, popped_on}
use Rattle.replay.specs.Replay.{over}
use Rattle.replay.specs.Popped.{popped_turn_stops, popped_turn_goes, popped_ends, code_keeps, pop_takes}

-- the first n of all the popped keys are written, and the steps from i on pop the others
pub record Popping (q : Rules) (steps all old : List ℕ) (new : List ℕ) (state : PackedState) (i n : ℕ) : Type 0 where
  pub low : n ≤ i
  pub short : n ≤ length all
  pub len : length new ≡ length old
  pub text : new ≡ paste old 0 all n
  pub left : popped_on q (drop i steps) (keys_of state) ≡ drop n all
  pub held : Window state

none_left : (all : List ℕ) (n : ℕ) → n ≤ length all → [] ≡ drop n all → n ≡ length all
none_left all n h e = omega (arith, length-drop n all, ap length e)

module _ (q : Rules) (steps old : List ℕ) (start : PackedState) where
  pub popping_first : Window start → Popping q steps (popped_on q steps (keys_of start)) old old start 0 0
  popping_first h = record {
    low = omega arith;
    short = omega arith;
    len = refl;
    text = paste-zero old 0 (popped_on q steps (keys_of start));
    left = refl;
    held = h;
  }

module _ (q : Rules) (steps all old new : List ℕ) (state : PackedState) (i n : ℕ) (p : Popping q steps all old new state i n) where
  -- all steps are done, or one is not allowed
  pub popping_last : length steps ≤ i → new ≡ over all old
  popping_last h =
      let e : n ≡ length all = none_left all n p.short (sym (popped_ends q steps i (keys_of state) h) ∙ p.left) in
      p.text ∙ ap (paste old 0 all) e ∙ over_whole old all

  pub popping_stopped : i < length steps → step_on q (decoded (get_or steps i 0)) (keys_of state) ≡ None → new ≡ over all old
  popping_stopped h s =
      let e : n ≡ length all = none_left all n p.short (sym (popped_turn_stops q steps i (keys_of state) h s) ∙ p.left) in
      p.text ∙ ap (paste old 0 all) e ∙ over_whole old all

  turned : (w : List ℕ) → i < length steps → step_on q (decoded (get_or steps i 0)) (keys_of state) ≡ Some w →
      drop n all ≡ gone_by (decoded (get_or steps i 0)) (keys_of state) ++ popped_on q (drop (i + 1) steps) w
  turned w h s = sym p.left ∙ popped_turn_goes q steps i (keys_of state) w h s

  -- a step that pops nothing
  pub popping_passed : (t : PackedState) → i < length steps → (get_or steps i 0 ≡ 0 → ⊥) → step_on q (decoded (get_or steps i 0)) (keys_of state) ≡ Some (keys_of t) → Window t →
      Popping q steps all old new t (i + 1) n
  popping_passed t h c s w = record {
    low = omega (arith, p.low);
    short = p.short;
    len = p.len;
    text = p.text;
    left = sym (turned (keys_of t) h s ∙ ap (λ (g : List ℕ). g ++ popped_on q (drop (i + 1) steps) (keys_of t)) (code_keeps (get_or steps i 0) (keys_of state) c));
    held = w;
  }

  -- a Pop
  popped_here : (w : List ℕ) → i < length steps → get_or steps i 0 ≡ 0 → step_on q (decoded (get_or steps i 0)) (keys_of state) ≡ Some w →
      drop n all ≡ get_or (keys_of state) 0 0 ∷ popped_on q (drop (i + 1) steps) w
  popped_here w h c s =
      turned w h s
      ∙ ap (λ (g : List ℕ). g ++ popped_on q (drop (i + 1) steps) w)
      (ap (λ (x : ℕ). gone_by (decoded x) (keys_of state)) c ∙ (pop_takes q (keys_of state) w (subst (λ (x : ℕ). step_on q (decoded x) (keys_of state) ≡ Some w) c s)).1)

  pub popping_put : (t : PackedState) (k : ℕ) → i < length steps → length steps ≤ length old → get_or steps i 0 ≡ 0 → step_on q (decoded (get_or steps i 0)) (keys_of state) ≡ Some (keys_of t) → Window t → k ≡ get_or (keys_of state) 0 0 →
      Popping q steps all old (set new n k) t (i + 1) (n + 1)
  popping_put t k h f c s w e =
      let d = popped_here (keys_of t) h c s in
      let l : n < length all = omega (arith, length-drop n all, ap length d) in
      let d2 : drop n all ≡ get_or all n 0 ∷ drop (n + 1) all = drop_turn all n l in
      let g : k ≡ get_or all n 0 = e ∙ cc in
      record {
        low = omega (arith, p.low);
        short = omega arith;
        len = length-set new n k ∙ p.len;
        text = rw (p.text, g) (over_turn old all n (omega (arith, p.low)) l);
        left = cc;
        held = w;
      }
