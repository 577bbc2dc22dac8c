-- A number held in two halves, hi * M + lo with M ≡ A * B, shifted by A. At A = 2 ^ s, B = 2 ^ (64 - s) this is a shift by s bits.
use mathlib.Core.Path.{◌≡◌, sym, ap, ◌∙◌, subst}
use Prim.Native.Nat.{ℕ, suc, ◌+◌, ◌-◌, ◌*◌, ◌/◌, ◌%◌, ◌^◌, ◌≤◌, ◌<◌}
use native.Mathlib.Nat.{pow-succ', mul_comm, mul_assoc, mul_right_comm, add-mul, mul-div-mul_right, mul-pos, div-add-mod', mul-add-div_right, div-lt_iff_lt-mul, mod-lt, mul-div_cancel, mul-mod_left, add-zero}
use native.Mathlib.Omega.{arith}
use lib.Arith.{digits_lt, digits_mod, mod-mul}
use lib.Pow.{pow-add, pow_pos, shr-shr, high}
use lib.Dec.{lit<}

module _ (A B M : ℕ) (pa : 0 < A) (pb : 0 < B) (e : A * B ≡ M) where
  pub carry : (x : ℕ) → x * B / M ≡ x / A
  carry x = ap (λ (m : ℕ). x * B / m) (sym e) ∙ mul-div-mul_right x A pb

  pub kept : (x : ℕ) → x * B % M ≡ x % A * B
  kept x =
      ap (λ (m : ℕ). x * B % m) (sym e) ∙ mod-mul (x * B) pa pb
      ∙ ap (λ (q : ℕ). q % A * B + x * B % B) (mul-div_cancel x pb)
      ∙ ap (λ (r : ℕ). x % A * B + r) (mul-mod_left x B) ∙ add-zero (x % A * B)

  pub joined : (x : ℕ) → x / A * M + x * B % M ≡ x * B
  joined x = ap (λ (q : ℕ). q * M + x * B % M) (sym (carry x)) ∙ div-add-mod' (x * B) M

  pub half_lt : (lo : ℕ) → lo < M → lo / A < B
  half_lt lo h = (div-lt_iff_lt-mul pa).1 (subst (λ (m : ℕ). lo < m) (sym e ∙ mul_comm A B) h)

  -- a shift to the right: the lower half of the result fits, and the two halves are the quotient
  pub shr_fits : (x lo : ℕ) → lo < M → lo / A + x * B % M < M
  shr_fits x lo h =
      rw (kept x)
      (let l : x % A * B + lo / A < A * B = digits_lt (mod-lt x pa) (half_lt lo h) in
      omega (arith, e))

  pub shr_whole : (hi lo : ℕ) → hi / A * M + (lo / A + hi * B % M) ≡ (hi * M + lo) / A
  shr_whole hi lo =
      let q : (hi * M + lo) / A ≡ hi * B + lo / A =
      ap (λ (m : ℕ). (hi * m + lo) / A) (sym e ∙ mul_comm A B) ∙ ap (λ (m : ℕ). (m + lo) / A) (sym (mul_assoc hi B A))
      ∙ mul-add-div_right pa (hi * B) lo in
      omega (arith, joined hi)

  pub shr_low : (hi lo : ℕ) → lo < M → lo / A + hi * B % M ≡ (hi * M + lo) / A % M
  shr_low hi lo h = sym (ap (λ (q : ℕ). q % M) (sym (shr_whole hi lo)) ∙ digits_mod (hi / A) (shr_fits hi lo h))

module _ (A B M : ℕ) (pa : 0 < A) (pb : 0 < B) (e : A * B ≡ M) where
  f : B * A ≡ M
  f = mul_comm B A ∙ e

  -- a shift to the left by A, with k < A shifted in
  pub shl_fits : (lo k : ℕ) → k < A → lo * A % M + k < M
  unfolding f
  shl_fits lo k h =
      rw (kept B A M pb pa (mul_comm B A ∙ e) lo)
      (let l : lo % B * A + k < B * A = digits_lt (mod-lt lo pb) h in omega (arith, mul_comm B A ∙ e))

  pub shl_whole : (hi lo k : ℕ) → (hi * A + lo / B) * M + (lo * A % M + k) ≡ (hi * M + lo) * A + k
  shl_whole hi lo k =
      omega (
        arith,
        add-mul (hi * A) (lo / B) M,
        add-mul (hi * M) lo A,
        mul_right_comm hi A M,
        joined B A M pb pa (mul_comm B A ∙ e) lo,
      )

-- the two factors of 2 ^ 64 at a shift by s bits, the second as the program has it
pub factors : (s : ℕ) → s < 64 → 2 ^ s * (2 * 2 ^ (63 - s)) ≡ 2 ^ 64
factors s h =
    ap (λ (x : ℕ). 2 ^ s * x) (sym (pow-succ' 2 (63 - s))) ∙ sym (pow-add 2 s (suc (63 - s)))
    ∙ ap (λ (x : ℕ). 2 ^ x) {y = 64} (omega arith)

pub two_pos : (k : ℕ) → 0 < 2 * 2 ^ k
two_pos k = mul-pos (lit< {m = 0} {n = 2} tt) (pow_pos k)

-- the bits from s on lie in the upper half
pub far : (hi lo s : ℕ) → 64 ≤ s → lo < 2 ^ 64 → (hi * 2 ^ 64 + lo) / 2 ^ s ≡ hi / 2 ^ (s - 64)
far hi lo s h l =
    ap (λ (x : ℕ). (hi * 2 ^ 64 + lo) / 2 ^ x) (omega arith)
    ∙ sym (shr-shr (hi * 2 ^ 64 + lo) 64 (s - 64)) ∙ ap (λ (x : ℕ). x / 2 ^ (s - 64)) (high hi 64 l)
