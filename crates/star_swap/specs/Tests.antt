-- Laws of tests.
use Rattle.std.specs.Prelude.{ℕ, zero, suc, ◌<◌, ◌≤◌, Bool, true, false, ◌||◌, List, [], ◌∷◌, ◌≡◌, refl, length, get_or, ltb}
use Rattle.std.proofs.Common.{arith, ltb-false}
use Rattle.costs.specs.Choice.{◌if◌otherwise◌}
use Rattle.costs.specs.Laws.{or_left}
use Rattle.costs.specs.Table.{any_over}

pub or_right : (a b : Bool) → (a || b) ≡ false → b ≡ false
or_right true b h = let z : ◌≡◌ {A = ℕ} 0 1 = cc in absurd (omega arith)
or_right false b h = h

pub or_second : (a b : Bool) → a ≡ false → (a || b) ≡ true → b ≡ true
or_second true b z h = let x : ◌≡◌ {A = ℕ} 0 1 = cc in absurd (omega arith)
or_second false b z h = h

pub over_none : (m : ℕ) (w : List ℕ) → any_over m w ≡ false → (i : ℕ) → i < length w → get_or w i 0 ≤ m
over_none m [] e i l = absurd (omega arith)
over_none m (x ∷ w) e zero l = ltb-false _ _ (or_left (ltb m x) (any_over m w) e)
over_none m (x ∷ w) e (suc i) l = over_none m w (or_right (ltb m x) (any_over m w) e) i (omega arith)

-- a test and its outcome
pub by_test {ℓ} : {A : Type ℓ} (P : A → Type 0) (b : Bool) (x y : A) → (b ≡ true → P x) → (b ≡ false → P y) → P (x if b otherwise y)
by_test P true x y f g = f refl
by_test P false x y f g = g refl
