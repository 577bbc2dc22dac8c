-- Laws of `pack`, over the width w.
use Rattle.std.specs.Prelude.{◌≡◌, refl, ℕ, zero, suc, ◌+◌, ◌-◌, ◌*◌, ◌/◌, ◌%◌, ◌^◌, ◌≤◌, ◌<◌, Bool, true, false, ◌||◌, List, [], ◌∷◌, ◌++◌, ltb, length, get_or, set}
use Rattle.std.proofs.Common.{sym, ap, ap₂, ◌∙◌, one-mul, add-mul, mul_right_comm, mul-le-mul, mul-zero, mul-suc, mul_comm, mul_assoc, mul-add, mul-one, div-one, zero-add, add_comm, not-suc-le-zero, le_of_suc-le-suc, mod-eq_of_lt, mul-le-mul_left, le_trans, le_of_eq, arith, ltb-false, pow_pos, pow-add, pow_mono, shr-shr}
use Rattle.std.proofs.Math.Nat.{add-mul-mod_self_left, add-mul-div_left, div-eq_of_lt}
use Rattle.costs.specs.Laws.{or_left}
use Rattle.costs.specs.Table.{any_over}
use Rattle.window.specs.Pack.{Keys, pack}

-- the marker's place, one key more
pub pow_step : (w n : ℕ) → 2 ^ (w * suc n) ≡ 2 ^ (w * n) * 2 ^ w
pow_step w n = ap (λ (x : ℕ). 2 ^ x) (mul-suc w n) ∙ pow-add 2 (w * n) w

pub pow_none : (w : ℕ) → 2 ^ (w * zero) ≡ 1
pow_none w = ap (λ (x : ℕ). 2 ^ x) (mul-zero w)

-- the top key and what lies below it
pub head_of : (w k p : ℕ) → k < 2 ^ w → (k + 2 ^ w * p) % 2 ^ w ≡ k
head_of w k p h = add-mul-mod_self_left k (2 ^ w) p ∙ mod-eq_of_lt h

pub tail_of : (w k p : ℕ) → k < 2 ^ w → (k + 2 ^ w * p) / 2 ^ w ≡ p
tail_of w k p h = add-mul-div_left k p (pow_pos w) ∙ ap (λ (x : ℕ). x + p) (div-eq_of_lt h) ∙ zero-add p

-- the key at i, whichever list
pub key_lt : (w : ℕ) (xs : List ℕ) (i : ℕ) → Keys w xs → get_or xs i 0 < 2 ^ w
key_lt w [] i h = pow_pos w
key_lt w (k ∷ ks) zero h = h.0
key_lt w (k ∷ ks) (suc i) h = key_lt w ks i h.1

pub keys_by : (w : ℕ) (xs : List ℕ) → ((i : ℕ) → i < length xs → get_or xs i 0 < 2 ^ w) → Keys w xs
keys_by w [] h = tt
keys_by w (k ∷ ks) h = (h 0 (omega arith), keys_by w ks (λ i l. h (suc i) (omega arith)))

-- the keys in front of others, and those
pub keys_front : (w : ℕ) (xs ys : List ℕ) → Keys w (xs ++ ys) → Keys w xs
keys_front w [] ys h = tt
keys_front w (x ∷ xs) ys h = (h.0, keys_front w xs ys h.1)

pub keys_behind : (w : ℕ) (xs ys : List ℕ) → Keys w (xs ++ ys) → Keys w ys
keys_behind w [] ys h = h
keys_behind w (x ∷ xs) ys h = keys_behind w xs ys h.1

pub keys_set : (w : ℕ) (xs : List ℕ) (i k : ℕ) → Keys w xs → k < 2 ^ w → Keys w (set xs i k)
keys_set w [] i k h l = tt
keys_set w (x ∷ xs) zero k h l = (l, h.1)
keys_set w (x ∷ xs) (suc i) k h l = (h.0, keys_set w xs i k h.1 l)

or_none : (a b : Bool) → (a || b) ≡ false → b ≡ false
or_none true b h = let z : ◌≡◌ {A = ℕ} 0 1 = cc in absurd (omega arith)
or_none false b h = h

-- no key over the greatest of the width
pub keys_of_lem : (w : ℕ) (ids : List ℕ) → any_over (2 ^ w - 1) ids ≡ false → Keys w ids
keys_of_lem w [] e = tt
keys_of_lem w (k ∷ ks) e = (
  omega (arith, pow_pos w, ltb-false (2 ^ w - 1) k (or_left (ltb (2 ^ w - 1) k) (any_over (2 ^ w - 1) ks) e)),
  keys_of_lem w ks (or_none (ltb (2 ^ w - 1) k) (any_over (2 ^ w - 1) ks) e),
)

-- the digit at place i is the key at i
pub pack_get : (w : ℕ) (xs : List ℕ) (i : ℕ) → Keys w xs → i < length xs → pack w xs / 2 ^ (w * i) % 2 ^ w ≡ get_or xs i 0
pack_get w [] i h l = absurd (not-suc-le-zero l)
pack_get w (k ∷ ks) zero h l =
    ap (λ (x : ℕ). (k + 2 ^ w * pack w ks) / x % 2 ^ w) (pow_none w)
    ∙ ap (λ (x : ℕ). x % 2 ^ w) (div-one (k + 2 ^ w * pack w ks))
    ∙ head_of w k (pack w ks) h.0
pack_get w (k ∷ ks) (suc i) h l =
    ap (λ (x : ℕ). (k + 2 ^ w * pack w ks) / 2 ^ x % 2 ^ w) (mul-suc w i ∙ add_comm (w * i) w)
    ∙ ap (λ (x : ℕ). x % 2 ^ w) (sym (shr-shr (k + 2 ^ w * pack w ks) w (w * i)))
    ∙ ap (λ (x : ℕ). x / 2 ^ (w * i) % 2 ^ w) (tail_of w k (pack w ks) h.0)
    ∙ pack_get w ks i h.1 (le_of_suc-le-suc l)

-- a key replaced, with no difference taken
scale : (b p g q : ℕ) → b * (p + g * q) ≡ b * p + g * (q * b)
scale b p g q = mul-add b p (g * q) ∙ ap (λ (x : ℕ). b * p + x) (mul_comm b (g * q) ∙ mul_assoc g q b)

pub pack_set : (w : ℕ) (xs : List ℕ) (i k : ℕ) → i < length xs → pack w (set xs i k) + get_or xs i 0 * 2 ^ (w * i) ≡ pack w xs + k * 2 ^ (w * i)
pack_set w [] i k l = absurd (not-suc-le-zero l)
pack_set w (x ∷ xs) zero k l = rw pow_none (omega arith)
pack_set w (x ∷ xs) (suc i) k l =
    rw pow_step
    (omega (
      arith,
      scale (2 ^ w) (pack w (set xs i k)) (get_or xs i 0) (2 ^ (w * i)),
      scale (2 ^ w) (pack w xs) k (2 ^ (w * i)),
      ap (λ (y : ℕ). 2 ^ w * y) (pack_set w xs i k (le_of_suc-le-suc l)),
    ))

-- the marker is the highest bit
pub pack_low : (w : ℕ) (xs : List ℕ) → 2 ^ (w * length xs) ≤ pack w xs
pack_low w [] = le_of_eq (pow_none w)
pack_low w (x ∷ xs) =
    rw pow_step
    (omega (arith, mul-le-mul_left (2 ^ w) (pack_low w xs), mul_comm (2 ^ w) (2 ^ (w * length xs))))

pub pack_high : (w : ℕ) (xs : List ℕ) → Keys w xs → pack w xs < 2 * 2 ^ (w * length xs)
pack_high w [] h = rw pow_none (omega arith)
pack_high w (x ∷ xs) h =
    rw pow_step
    (let ih : pack w xs + 1 ≤ 2 * 2 ^ (w * length xs) = omega (arith, pack_high w xs h.1) in
    omega (
      arith,
      h.0,
      mul-le-mul_left (2 ^ w) ih,
      mul-add (2 ^ w) (pack w xs) 1,
      mul-one (2 ^ w),
      mul_comm (2 ^ w) (2 * 2 ^ (w * length xs)),
      mul_assoc 2 (2 ^ (w * length xs)) (2 ^ w),
    ))

-- a window has one number, and a number one window
pub two_le : (w : ℕ) → 0 < w → 2 ≤ 2 ^ w
two_le w h = pow_mono {i = 1} {j = w} h

pub pack_pos : (w : ℕ) (xs : List ℕ) → 1 ≤ pack w xs
pack_pos w xs = le_trans (pow_pos (w * length xs)) (pack_low w xs)

pub pack_inj : (w : ℕ) → 0 < w → (xs ys : List ℕ) → Keys w xs → Keys w ys → pack w xs ≡ pack w ys → xs ≡ ys
pack_inj w p [] [] h l e = refl
pack_inj w p [] (y ∷ ys) h l e = absurd (omega (arith, e, two_le w p, mul-le-mul (two_le w p) (pack_pos w ys)))
pack_inj w p (x ∷ xs) [] h l e = absurd (omega (arith, e, two_le w p, mul-le-mul (two_le w p) (pack_pos w xs)))
pack_inj w p (x ∷ xs) (y ∷ ys) h l e =
    ap₂ (λ (a : ℕ) (b : List ℕ). a ∷ b)
    (sym (head_of w x (pack w xs) h.0) ∙ ap (λ (v : ℕ). v % 2 ^ w) e ∙ head_of w y (pack w ys) l.0)
    (pack_inj w p xs ys h.1 l.1
    (sym (tail_of w x (pack w xs) h.0) ∙ ap (λ (v : ℕ). v / 2 ^ w) e ∙ tail_of w y (pack w ys) l.0))

-- the number as a sum: each key at its place, and the marker above
abbrev pub placed : ℕ → ℕ → List ℕ → ℕ
placed w i [] = 2 ^ (w * i)
placed w i (k ∷ ks) = k * 2 ^ (w * i) + placed w (suc i) ks

placed_from : (w i : ℕ) (xs : List ℕ) → pack w xs * 2 ^ (w * i) ≡ placed w i xs
placed_from w i [] = one-mul (2 ^ (w * i))
placed_from w i (k ∷ ks) =
    add-mul k (2 ^ w * pack w ks) (2 ^ (w * i))
    ∙ ap (λ (x : ℕ). k * 2 ^ (w * i) + x)
    (mul_right_comm (2 ^ w) (pack w ks) (2 ^ (w * i)) ∙ mul_comm (2 ^ w * 2 ^ (w * i)) (pack w ks)
    ∙ ap (λ (x : ℕ). pack w ks * x) (mul_comm (2 ^ w) (2 ^ (w * i)) ∙ sym (pow_step w i)) ∙ placed_from w (suc i) ks)

pub pack_sum : (w : ℕ) (xs : List ℕ) → pack w xs ≡ placed w 0 xs
pack_sum w xs = sym (mul-one (pack w xs)) ∙ ap (λ (x : ℕ). pack w xs * x) (sym (pow_none w)) ∙ placed_from w 0 xs
