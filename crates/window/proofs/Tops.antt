-- Bounds of a held state, and where its highest bit is.
use mathlib.Core.Path.{◌≡◌, sym, ap, ◌∙◌, subst}
use Prim.Native.Nat.{ℕ, suc, ◌+◌, ◌-◌, ◌*◌, ◌/◌, ◌%◌, ◌^◌, ◌≤◌, ◌<◌}
use native.Mathlib.Nat.{mul_comm, lt_of_mul-lt-mul_right, lt_of_le_of_lt, lt_of_lt_of_le, le-add_right, le_of_eq, le_trans, mul-le-mul_right, lt_of_not-le, not-le_of_lt, le_antisymm, le_of_suc-le-suc, pow-suc}
use native.Mathlib.Omega.{arith}
use mathlib.Core.List.{List}
use lib.ListN.{length, get_or, set}
use lib.Pow.{pow-add, pow_mono, pow_pos}
use lib.Count.{count_leading_zeros, leading_top}
use lib.Arith.{digits_lt}
use Rattle.window.specs.declared.PackedState.{PackedState}
use Rattle.window.specs.Laws.{pack_low, pack_high, pack_get, pack_set, keys_set}
use Rattle.window.specs.State.{Held, whole}

pub exp_lt : {a b : ℕ} → 2 ^ a < 2 ^ b → a < b
exp_lt {a} {b} h = lt_of_not-le (λ (g : b ≤ a). not-le_of_lt h (pow_mono g))

-- a number has one highest bit
pub one_top : (v a b : ℕ) → 2 ^ a ≤ v → v < 2 ^ suc a → 2 ^ b ≤ v → v < 2 ^ suc b → a ≡ b
one_top v a b la ha lb hb = le_antisymm (le_of_suc-le-suc (exp_lt (lt_of_le_of_lt la hb))) (le_of_suc-le-suc (exp_lt (lt_of_le_of_lt lb ha)))

module _ (w : ℕ) (s : PackedState) (xs : List ℕ) (h : Held w s xs) where
  pub held_low : 2 ^ (w * length xs) ≤ whole s
  held_low = le_trans (pack_low w xs) (le_of_eq (sym h.value))

  pub held_high : whole s < 2 ^ suc (w * length xs)
  held_high = lt_of_le_of_lt (le_of_eq h.value) (lt_of_lt_of_le (pack_high w xs h.keys) (le_of_eq (mul_comm 2 (2 ^ (w * length xs)) ∙ sym (pow-suc 2 (w * length xs)))))

  -- a marker below bit j + 64 leaves the upper half below 2 ^ j
  pub upper_lt : (j : ℕ) → w * length xs < j + 64 → s.hi < 2 ^ j
  unfolding whole
  upper_lt j l =
      lt_of_mul-lt-mul_right (2 ^ 64)
      (lt_of_le_of_lt (le-add_right (s.hi * 2 ^ 64) s.lo)
      (lt_of_lt_of_le held_high (le_trans (pow_mono l) (le_of_eq (pow-add 2 j 64)))))

  -- the window fits two words
  pub held_fits : s.hi < 2 ^ 64 → s.lo < 2 ^ 64 → w * length xs < 128
  unfolding whole
  held_fits p q = exp_lt (lt_of_le_of_lt held_low (digits_lt {q = s.hi} {m = 2 ^ 64} {r = s.lo} {c = 2 ^ 64} p q))

  -- the marker's place, from the highest bit of the upper half, or of the lower where the upper is 0
  pub mark_hi : (j : ℕ) → 2 ^ j ≤ s.hi → s.hi < 2 ^ suc j → s.lo < 2 ^ 64 → j + 64 ≡ w * length xs
  unfolding whole
  mark_hi j lo hi f =
      one_top (whole s) (j + 64) (w * length xs)
      (le_trans (le_of_eq (pow-add 2 j 64)) (le_trans (mul-le-mul_right (2 ^ 64) lo) (le-add_right (s.hi * 2 ^ 64) s.lo)))
      (lt_of_lt_of_le (digits_lt {q = s.hi} {m = 2 ^ suc j} {r = s.lo} {c = 2 ^ 64} hi f) (le_of_eq (sym (pow-add 2 (suc j) 64) ∙ ap (λ (x : ℕ). 2 ^ x) (omega arith))))
      held_low
      held_high

  pub mark_lo : (j : ℕ) → s.hi ≡ 0 → 2 ^ j ≤ s.lo → s.lo < 2 ^ suc j → j ≡ w * length xs
  unfolding whole
  mark_lo j z lo hi =
      let v : whole s ≡ s.lo = omega (arith, z) in
      one_top (whole s) j (w * length xs) (le_trans lo (le_of_eq (sym v))) (lt_of_le_of_lt (le_of_eq v) hi) held_low held_high

  pub lower_pos : s.hi ≡ 0 → 0 < s.lo
  unfolding whole
  lower_pos z = omega (arith, z, held_low, pow_pos (w * length xs))

  -- what the program computes from the leading zeros of a half
  pub mark_of_hi : 0 < s.hi → s.hi < 2 ^ 64 → s.lo < 2 ^ 64 → 127 - count_leading_zeros 64 s.hi ≡ w * length xs
  mark_of_hi p f g =
      let t = leading_top 64 s.hi p f in
      omega (arith, mark_hi t.0 t.2 t.3 g, t.1)

  pub mark_of_lo : s.hi ≡ 0 → s.lo < 2 ^ 64 → (count_leading_zeros 64 s.lo ≤ 63) × (63 - count_leading_zeros 64 s.lo ≡ w * length xs)
  mark_of_lo z g =
      let t = leading_top 64 s.lo (lower_pos z) g in
      (omega (arith, t.1), omega (arith, mark_lo t.0 z t.2 t.3, t.1))

  -- the key at i, as the program finds it
  pub held_digit : (i : ℕ) → i < length xs → whole s / 2 ^ (i * w) % 2 ^ w ≡ get_or xs i 0
  held_digit i l =
      ap (λ (v : ℕ). whole s / 2 ^ v % 2 ^ w) (mul_comm i w) ∙ ap (λ (v : ℕ). v / 2 ^ (w * i) % 2 ^ w) h.value
      ∙ pack_get w xs i h.keys l

  -- a state whose number differs by the key at i alone
  pub held_set : (t : PackedState) (i k : ℕ) → i < length xs → k < 2 ^ w → whole t + get_or xs i 0 * 2 ^ (i * w) ≡ whole s + k * 2 ^ (i * w) → Held w t (set xs i k)
  held_set t i k l p e =
      let f : whole t + get_or xs i 0 * 2 ^ (w * i) ≡ whole s + k * 2 ^ (w * i) =
      subst (λ (v : ℕ). whole t + get_or xs i 0 * 2 ^ v ≡ whole s + k * 2 ^ v) (mul_comm i w) e in
      record { keys = keys_set w xs i k h.keys p; value = omega (arith, f, h.value, pack_set w xs i k l) }
