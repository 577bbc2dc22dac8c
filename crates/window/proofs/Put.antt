-- One digit of a word, or of a number in two halves, replaced.
use mathlib.Core.Path.{◌≡◌, refl, sym, ap, ◌∙◌, subst}
use Prim.Native.Nat.{ℕ, ◌+◌, ◌-◌, ◌*◌, ◌/◌, ◌%◌, ◌^◌, ◌≤◌, ◌<◌}
use native.Mathlib.Nat.{mul_comm, mul_assoc, mul_right_comm, add-mul, div-add-mod', mul-add-div_right, mul-add-mod_self_right, div-lt_iff_lt-mul, mod-lt, mod-eq_of_lt, mul-lt-mul_of_pos_right}
use native.Mathlib.Omega.{arith}
use lib.Arith.{digits_lt, digits_div, digits_mod, mod-mul}
use lib.Pow.{pow-add, pow_pos}
use lib.Dec.{lit<}
use Rattle.window.proofs.Halves.{half_lt}

-- in a word below M: the digit of base W at place A
module _ (A W C M : ℕ) (pa : 0 < A) (pw : 0 < W) (e : C * W * A ≡ M) (x new : ℕ) (hx : x < M) (hn : new < W) where
  parts : x ≡ x / A / W * W * A + x / A % W * A + x % A
  parts =
      sym (div-add-mod' x A)
      ∙ ap (λ (y : ℕ). y * A + x % A) (sym (div-add-mod' (x / A) W))
      ∙ ap (λ (y : ℕ). y + x % A) (add-mul (x / A / W * W) (x / A % W) A)

  rest_lt : x / A / W < C
  rest_lt = (div-lt_iff_lt-mul pw).1 ((div-lt_iff_lt-mul pa).1 (subst (λ (m : ℕ). x < m) (sym e) hx))

  room : x / A / W * W * A + new * A + x % A < M
  room =
      subst (λ (m : ℕ). m + x % A < M) (add-mul (x / A / W * W) new A)
      (subst (λ (m : ℕ). (x / A / W * W + new) * A + x % A < m) e (digits_lt (digits_lt rest_lt hn) (mod-lt x pa)))

  pub old_mod : x / A % W * A % M ≡ x / A % W * A
  old_mod = mod-eq_of_lt (omega (arith, parts))

  pub new_mod : new * A % M ≡ new * A
  new_mod = mod-eq_of_lt (omega (arith, room))

  pub old_le : x / A % W * A ≤ x
  old_le = omega (arith, parts)

  pub new_fits : x - x / A % W * A + new * A < M
  new_fits = omega (arith, parts, room)

pub word : (s : ℕ) → s ≤ 58 → 2 ^ (58 - s) * 64 * 2 ^ s ≡ 2 ^ 64
word s h =
    mul_right_comm (2 ^ (58 - s)) 64 (2 ^ s) ∙ ap (λ (x : ℕ). x * 64) (sym (pow-add 2 (58 - s) s))
    ∙ ap (λ (x : ℕ). 2 ^ x * 64) {y = 58} (omega arith)

-- a digit of the lower half alone
pub near : (hi lo s : ℕ) → s ≤ 58 → (hi * 2 ^ 64 + lo) / 2 ^ s % 64 ≡ lo / 2 ^ s % 64
near hi lo s h =
    ap (λ (m : ℕ). (m + lo) / 2 ^ s % 64)
    (ap (λ (m : ℕ). hi * m) (sym (word s h)) ∙ sym (mul_assoc hi (2 ^ (58 - s) * 64) (2 ^ s)))
    ∙ ap (λ (m : ℕ). m % 64) (mul-add-div_right (pow_pos s) (hi * (2 ^ (58 - s) * 64)) lo)
    ∙ ap (λ (m : ℕ). (m + lo / 2 ^ s) % 64) (sym (mul_assoc hi (2 ^ (58 - s)) 64))
    ∙ mul-add-mod_self_right (hi * 2 ^ (58 - s)) 64 (lo / 2 ^ s)

-- a digit of base D * B at place A, which lies across the halves: B is what the lower half has of it
module _ (A B D M : ℕ) (pa : 0 < A) (pb : 0 < B) (pd : 0 < D) (e : A * B ≡ M) (hi lo : ℕ) (l : lo < M) where
  across : (hi * M + lo) / A ≡ hi * B + lo / A
  across =
      ap (λ (m : ℕ). (hi * m + lo) / A) (sym e ∙ mul_comm A B) ∙ ap (λ (m : ℕ). (m + lo) / A) (sym (mul_assoc hi B A))
      ∙ mul-add-div_right pa (hi * B) lo

  pub across_digit : (hi * M + lo) / A % (D * B) ≡ hi % D * B + lo / A
  across_digit =
      let f : lo / A < B = half_lt A B M pa pb e lo l in
      ap (λ (v : ℕ). v % (D * B)) across ∙ mod-mul (hi * B + lo / A) pd pb
      ∙ ap (λ (v : ℕ). v % D * B + (hi * B + lo / A) % B) (digits_div hi f)
      ∙ ap (λ (v : ℕ). hi % D * B + v) (digits_mod hi f)

  pub across_put : (k : ℕ) → (hi / D * D + k / B) * M + (lo % A + k % B * A) + (hi % D * B + lo / A) * A ≡ hi * M + lo + k * A
  across_put k =
      let m : (x : ℕ) → x * B * A ≡ x * M = λ x. mul_assoc x B A ∙ ap (λ (y : ℕ). x * y) (mul_comm B A ∙ e) in
      omega (
        arith,
        add-mul (hi / D * D) (k / B) M,
        add-mul (hi % D * B) (lo / A) A,
        m (hi % D),
        m (k / B),
        add-mul (hi / D * D) (hi % D) M,
        ap (λ (y : ℕ). y * M) (div-add-mod' hi D),
        div-add-mod' lo A,
        add-mul (k / B * B) (k % B) A,
        ap (λ (y : ℕ). y * A) (div-add-mod' k B),
      )

-- the three places that a key of six bits can have: across the halves, and in the upper half
pub across_set : (hi lo k d : ℕ) → lo < 2 ^ 64 → d ≡ (hi * 2 ^ 64 + lo) / 2 ^ 60 % 64
    → (hi / 4 * 4 + k / 16) * 2 ^ 64 + (lo % 2 ^ 60 + k % 16 * 2 ^ 60 % 2 ^ 64) + d * 2 ^ 60 ≡ hi * 2 ^ 64 + lo + k * 2 ^ 60
across_set hi lo k d l e =
    rw (e, across_digit (2 ^ 60) 16 4 (2 ^ 64) (lit< tt) (lit< tt) (lit< tt) refl hi lo l, low_part)
    (across_put (2 ^ 60) 16 4 (2 ^ 64) (lit< tt) (lit< tt) (lit< tt) refl hi lo l k)
  where
    low_part : k % 16 * 2 ^ 60 % 2 ^ 64 ≡ k % 16 * 2 ^ 60
    low_part = mod-eq_of_lt (mul-lt-mul_of_pos_right {n = 16} (mod-lt k (lit< tt)) (lit< {m = 0} {n = 2 ^ 60} tt))

lift : (M A S r hi lo d k : ℕ) → A * M ≡ S → r + d * A ≡ hi + k * A → r * M + lo + d * S ≡ hi * M + lo + k * S
lift M A S r hi lo d k e f =
    rw (← e)
    (omega (arith, add-mul r (d * A) M, add-mul hi (k * A) M, mul_assoc d A M, mul_assoc k A M, ap (λ (x : ℕ). x * M) f))

pub upper_set : (r hi lo d k s : ℕ) → 64 ≤ s → r + d * 2 ^ (s - 64) ≡ hi + k * 2 ^ (s - 64) → r * 2 ^ 64 + lo + d * 2 ^ s ≡ hi * 2 ^ 64 + lo + k * 2 ^ s
upper_set r hi lo d k s h =
    lift (2 ^ 64) (2 ^ (s - 64)) (2 ^ s) r hi lo d k (sym (pow-add 2 (s - 64) 64) ∙ ap (λ (x : ℕ). 2 ^ x) {y = s} (omega arith))
