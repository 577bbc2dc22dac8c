-- How often a value stands in a list, read through a function.
use Rattle.std.specs.Prelude.{◌≡◌, refl, Bool, true, false, List, [], ◌∷◌, ◌++◌, ℕ, ◌+◌, ◌≤◌, ◌<◌, eqb, T}
use Rattle.std.proofs.Common.{sym, ap, subst, ◌∙◌, arith, eqb→eq}
use Rattle.std.proofs.Math.Dec.{eqb_refl}

abbrev pub bit : Bool → ℕ
bit true = 1
bit false = 0

-- 1 where two numbers are equal, and 0 otherwise
unfoldable pub δ : ℕ → ℕ → ℕ
δ a b = bit (eqb a b)

-- a test and what it says
pub data Test (a b : ℕ) : Bool → Type 0 where
  equal : a ≡ b → Test a b true
  unequal : (a ≡ b → ⊥) → Test a b false

pub test : (a b : ℕ) → Test a b (eqb a b)
test a b = go (eqb a b) refl
  where
    go : (t : Bool) → eqb a b ≡ t → Test a b t
    go true e = equal (eqb→eq a b (subst (λ (x : Bool). T x) (sym e) tt))
    go false e = unequal (λ h. subst (λ (x : Bool). T x) (ap (eqb a) h ∙ e) (eqb_refl a))

-- δ by cases
pub data Same (a b : ℕ) : ℕ → Type 0 where
  same : a ≡ b → Same a b 1
  differ : (a ≡ b → ⊥) → Same a b 0

pub same? : (a b : ℕ) → Same a b (δ a b)
unfolding δ
same? a b = go (eqb a b) (test a b)
  where
    go : (t : Bool) → Test a b t → Same a b (bit t)
    go true (equal h) = same h
    go false (unequal h) = differ h

pub δ_refl : (a : ℕ) → δ a a ≡ 1
δ_refl a = go (δ a a) (same? a a)
  where
    go : (n : ℕ) → Same a a n → n ≡ 1
    go _ (same h) = refl
    go _ (differ h) = absurd (h refl)

pub δ_pos : (a b : ℕ) → 0 < δ a b → a ≡ b
δ_pos a b = go (δ a b) (same? a b)
  where
    go : (n : ℕ) → Same a b n → 0 < n → a ≡ b
    go _ (same h) p = h
    go _ (differ h) p = absurd (omega arith)

pub δ_neg : (a b : ℕ) → (a ≡ b → ⊥) → δ a b ≡ 0
δ_neg a b no_eq = go (δ a b) (same? a b)
  where
    go : (n : ℕ) → Same a b n → n ≡ 0
    go _ (same h) = absurd (no_eq h)
    go _ (differ h) = refl

pub δ_le : (a b : ℕ) → δ a b ≤ 1
δ_le a b = go (δ a b) (same? a b)
  where
    go : (n : ℕ) → Same a b n → n ≤ 1
    go _ (same h) = omega arith
    go _ (differ h) = omega arith

-- how many i of the list have f i ≡ x
unfoldable pub cnt_by : (ℕ → ℕ) → ℕ → List ℕ → ℕ
cnt_by f x [] = 0
cnt_by f x (i ∷ l) = δ x (f i) + cnt_by f x l

abbrev pub itself : ℕ → ℕ
itself i = i

abbrev pub cnt : ℕ → List ℕ → ℕ
cnt x l = cnt_by itself x l

pub cnt_by_append : (f : ℕ → ℕ) (x : ℕ) (a b : List ℕ) → cnt_by f x (a ++ b) ≡ cnt_by f x a + cnt_by f x b
unfolding cnt_by
cnt_by_append f x [] b = omega arith
cnt_by_append f x (i ∷ a) b = omega (arith, cnt_by_append f x a b)

-- what stands in a list counts under f
pub cnt_by_pos : (f : ℕ → ℕ) (i : ℕ) (l : List ℕ) → 0 < cnt i l → 0 < cnt_by f (f i) l
unfolding cnt_by
cnt_by_pos f i [] h = h
cnt_by_pos f i (j ∷ l) h = go (δ i j) (same? i j) h (cnt_by_pos f i l)
  where
    go : (n : ℕ) → Same i j n → 0 < n + cnt i l → (0 < cnt i l → 0 < cnt_by f (f i) l) → 0 < δ (f i) (f j) + cnt_by f (f i) l
    go _ (same e) p r = omega (arith, ap (λ (z : ℕ). δ (f i) (f z)) e, δ_refl (f i))
    go _ (differ e) p r = omega (arith, r (omega arith))
