-- The lengths of windows after steps, and delete-tail's loops.
use Rattle.std.specs.Prelude.{ℕ, suc, ◌+◌, ◌-◌, ◌*◌, ◌<◌, ◌≤◌, List, ◌≡◌, length}
use Rattle.std.proofs.Common.{ap, sym, ◌∙◌, add-one, arith, length-set, length-drop}
use Rattle.costs.specs.declared.Step.{Step}
use Rattle.costs.specs.declared.Step.TheVariants.{Pop, Dup, Swap, PushImm, LoadVal}
use Rattle.replay.specs.Machine.{after}
use Rattle.builders.specs.Draft.{Draft, does}
use Rattle.builders.specs.Tail.{bury, pops}
use Rattle.builders.specs.TailLaws.{does_length}

-- the length of a window after a step
abbrev pub length_after : Step → ℕ → ℕ
length_after Pop n = n - 1
length_after (Dup p) n = n + 1
length_after (Swap d) n = n
length_after (PushImm k) n = n + 1
length_after (LoadVal k) n = n + 1

pub length_after_lem : (s : Step) (w : List ℕ) → length (after s w) ≡ length_after s (length w)
unfolding after
length_after_lem Pop w = length-drop 1 w
length_after_lem (Dup p) w = omega arith
length_after_lem (Swap d) w = simp length-set
length_after_lem (PushImm k) w = omega arith
length_after_lem (LoadVal k) w = omega arith

pub does_size : (s : Step) (p : Draft) → length (does s p).window ≡ length_after s (length p.window)
unfolding does
does_size s p = length_after_lem s p.window

-- the lengths after a step
pub acted : (s : Step) (p r : Draft) → r ≡ does s p → (length r.window ≡ length_after s (length p.window)) × (length r.steps ≡ length p.steps + 1)
acted s p r e = rw e (does_size s p, does_length s p)

-- so many keys are buried, and the others decide
pub record Burying (n : ℕ) (p₀ p : Draft) (i : ℕ) : Type 0 where
  pub left : bury (n - i) i p ≡ bury n 0 p₀
  pub size : length p.window + i ≡ length p₀.window
  pub count : length p.steps ≡ length p₀.steps + 2 * i

module _ (n : ℕ) (p₀ : Draft) where
  module _ (p : Draft) (i : ℕ) (v : Burying n p₀ p i) where
    pub bury_next : (d : ℕ) (p₁ p₂ : Draft) → i < n → 2 * n ≤ length p₀.window → d ≡ length p.window - 1 - i → p₁ ≡ does (Swap d) p → p₂ ≡ does Pop p₁ → Burying n p₀ p₂ (i + 1)
    unfolding bury
    bury_next d p₁ p₂ l f e a b =
        let q : p₂ ≡ does Pop (does (Swap d) p) = b ∙ ap (does Pop) a in
        let m : n - i ≡ suc (n - (i + 1)) = omega arith in
        record {
          left = rw (q, e) (sym (rw (m, add-one i)) ∙ v.left);
          size = rw q (omega (arith, v.size, does_size Pop (does (Swap d) p), does_size (Swap d) p));
          count = rw q (omega (arith, v.count, does_length Pop (does (Swap d) p), does_length (Swap d) p));
        }

    pub bury_last : n ≤ i → p ≡ bury n 0 p₀
    unfolding bury
    bury_last l = let m : n - i ≡ 0 = omega arith in (rw m at v.left)

-- so many pops are done, and the others decide
pub record Popping (n : ℕ) (p₀ p : Draft) (i : ℕ) : Type 0 where
  pub left : pops (n - i) p ≡ pops n p₀
  pub size : length p.window + i ≡ length p₀.window
  pub count : length p.steps ≡ length p₀.steps + i

module _ (n : ℕ) (p₀ : Draft) where
  module _ (p : Draft) (i : ℕ) (v : Popping n p₀ p i) where
    pub pop_next : (p₁ : Draft) → i < n → n ≤ length p₀.window → p₁ ≡ does Pop p → Popping n p₀ p₁ (i + 1)
    unfolding pops
    pop_next p₁ l f a =
        let m : n - i ≡ suc (n - (i + 1)) = omega arith in
        record {
          left = rw a (sym (rw m) ∙ v.left);
          size = rw a (omega (arith, v.size, does_size Pop p));
          count = rw a (omega (arith, v.count, does_length Pop p));
        }

    pub pop_last : n ≤ i → p ≡ pops n p₀
    unfolding pops
    pop_last l = let m : n - i ≡ 0 = omega arith in (rw m at v.left)
